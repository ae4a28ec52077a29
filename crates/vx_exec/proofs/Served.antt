-- Labels of images of well formed systems.
use Rattle.std.proofs.Common.{◌<◌, length, ◌&&◌, nat_lt, nat_le}
use Rattle.std.proofs.lemmas.Bool.{and_parts, ltb-true}
use Rattle.std.specs.List.{list_all}
use Rattle.vx_record.specs.Types.{Image, Pid}
use Rattle.vx_image.specs.WellFormed.{are_distinct, falls_nowhere, is_stmt, label_names, label_places, IsImage}
use Rattle.vx_record.specs.State.{image_of}
use Rattle.vx_procs.specs.Kernel.{Kernel}
use Rattle.vx_exec.specs.Ready.{IsSet}

labels_few : (image : Image) → IsImage image → length image.labels < 4294967296
labels_few image formed = ltb-true _ _ (and_parts (nat_lt (length image.labels) 4294967296) (
    nat_le (length image.stmts) 10000 && (
    are_distinct (label_names image) && (
    falls_nowhere 0 (label_places image) && (
    list_all (λ place. nat_le place (length image.stmts)) (label_places image) && list_all (is_stmt formed.0 image) image.stmts)))) formed.1).0

pub few_labels : (k : Kernel) (p : Pid) → IsSet k p → length (image_of k.state p).labels < 4294967296
few_labels k p set = labels_few (image_of k.state p) set.ready.formed

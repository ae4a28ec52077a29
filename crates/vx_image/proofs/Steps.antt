-- Runs of local statements, and what an image of a well formed system says of its statements.
use Rattle.std.proofs.Common.{◌≡◌, ℕ, zero, suc, ◌+◌, ◌-◌, ◌<◌, List, [], ◌∷◌, Option, Some, IsTrue, option_map, refl, sym, ◌∙◌, ap, arith, rules, slice_get}
use Rattle.std.specs.List.{list_all}
use Rattle.vx_image.specs.Local.{Reader, Moved, Advanced, local, run_local, is_storable}
use Rattle.vx_image.specs.Storage.{Storage}
use Rattle.vx_image.specs.Stmts.{meant}
use Rattle.vx_image.specs.WellFormed.{is_stmt, IsImage}
use Rattle.vx_image.specs.declared.image.Image.{Image}
use Rattle.vx_image.specs.declared.stmt.Stmt.{Stmt}
use Rattle.vx_image.specs.declared.stmt.Stmt.TheVariants as stmt
use Rattle.vx_image.specs.declared.stmt.StmtRef.{StmtRef}

-- after a local statement a run goes on with one statement less
pub run_on : (m : ℕ) (image : Image) (who : Reader) (store : Storage) (place : ℕ) (s : Stmt) (moved : Moved) →
    slice_get image.stmts place ≡ Some s → local image who store place s ≡ Some moved →
    run_local (suc m) image who store place ≡ run_local m image who moved.store moved.place
run_on m image who store place s moved at moves = rw (at, moves) refl

pub one_more : (n i : ℕ) → i < n → n - i ≡ suc (n - (i + 1))
one_more n i lt = omega arith

pub goes_on : (n i : ℕ) (image : Image) (who : Reader) (store : Storage) (place : ℕ) (s : Stmt) (moved : Moved) (all : Advanced) →
    i < n → slice_get image.stmts place ≡ Some s → local image who store place s ≡ Some moved →
    run_local (n - i) image who store place ≡ all →
    run_local (n - (i + 1)) image who moved.store moved.place ≡ all
goes_on n i image who store place s moved all lt at moves same =
    sym (run_on (n - (i + 1)) image who store place s moved at moves)
    ∙ (ap (λ (m : ℕ). run_local m image who store place) (sym (one_more n i lt)) ∙ same)

pub storable : (decls : List (List ℕ)) (image : Image) (s : Stmt) → IsTrue (is_stmt decls image s) → IsTrue (is_storable s)
storable decls image (stmt.Put b bytes) h = h
storable decls image (stmt.Byte t b x) h = grind (arith, rules)
storable decls image (stmt.Iosb t i f) h = grind (arith, rules)
storable decls image s h = grind arith

pub all_storable : (decls : List (List ℕ)) (image : Image) (stmts : List Stmt) →
    IsTrue (list_all (is_stmt decls image) stmts) → IsTrue (list_all is_storable stmts)
all_storable decls image [] h = grind arith
all_storable decls image (s ∷ stmts) h = grind (arith, storable decls image s, all_storable decls image stmts)

-- the statements of an image of a well formed system find room in a store
pub image_storable : (image : Image) → IsImage image → IsTrue (list_all is_storable image.stmts)
image_storable image (decls, h) = grind (arith, all_storable decls image image.stmts)

-- each of them does
pub storable_at : (stmts : List Stmt) (k : ℕ) (s : Stmt) → IsTrue (list_all is_storable stmts) → slice_get stmts k ≡ Some s → IsTrue (is_storable s)
storable_at [] k s all at = grind arith
storable_at (t ∷ stmts) zero s all at = grind arith
storable_at (t ∷ stmts) (suc k) s all at = grind (arith, storable_at stmts k s)

-- what was read stands there
pub stands_at : (stmts : List Stmt) (k : ℕ) (read : Option StmtRef) (s : StmtRef) → option_map meant read ≡ slice_get stmts k → read ≡ Some s → slice_get stmts k ≡ Some (meant s)
stands_at stmts k read s is found = sym is ∙ ap (λ (o : Option StmtRef). option_map meant o) found

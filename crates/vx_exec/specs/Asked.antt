-- What a call of $QIO or $QIOW asks.
use Rattle.vx_record.specs.Types.{Args}
use Rattle.vx_record.specs.Services.{function, number}
use Rattle.vx_io.specs.declared.asking.Asking.{Asking}

-- by its arguments: event flag, channel, function, I/O status block, buffer, length, block; its AST stands behind the status block
abbrev pub asking_of : Args → Asking
asking_of a = record { efn = number a.a0; chan = number a.a1; func = function a.a2; iosb = number a.a3; buf = number a.a6; len = number a.a7; blk = number a.a8 }

-- What the theorems about each chip in scripts share: a call of the pair is one of its public calls, and what comes after a call in time is in time. Assumes nothing.
use mathlib.Core.Bool.{true, not}
use mathlib.Core.List.{List, ◌∷◌}
use mathlib.Core.Path.{◌≡◌, refl}
use Rattle.utils.proofs.Bools.{and_true}
use Rattle.vpic.specs.Words.{PicState}
use Rattle.vpic_theorems.specs.Statements as claims
use Rattle.script_format.specs.declared.Call.{Call}
use Rattle.script_format.specs.declared.PicCall.{PicCall}
use Rattle.script_format.specs.declared.PicCall.TheVariants as pic
use Rattle.script_machine.specs.declared.Used.{Used}
use Rattle.script_machine.specs.Late.{is_late, used_after}
use Rattle.script_machine.specs.Machine.{pic_outcome}
use Rattle.script_theorems.specs.Runs.{in_time}

pub pic_call : PicCall → claims.Call
pic_call (pic.HandleRead port width) = claims.call_handle_read port width
pic_call (pic.HandleWrite port width value) = claims.call_handle_write port width value
pic_call (pic.ClaimIrq irq) = claims.call_claim_irq irq
pic_call pic.ClaimPendingInterrupt = claims.claim_pending_interrupt
pic_call (pic.RestoreInterrupt claim) = claims.call_restore_interrupt claim

pub as_call : (p : PicState) (c : PicCall) → pic_outcome p c ≡ claims.outcome p (pic_call c)
unfolding pic_outcome claims.outcome pic_call
as_call p (pic.HandleRead port width) = refl
as_call p (pic.HandleWrite port width value) = refl
as_call p (pic.ClaimIrq irq) = refl
as_call p pic.ClaimPendingInterrupt = refl
as_call p (pic.RestoreInterrupt claim) = refl

pub later : (used : Used) (c : Call) (cs : List Call) → in_time used (c ∷ cs) ≡ true → in_time (used_after used c) cs ≡ true
unfolding in_time
later used c cs h = (and_true (not (is_late used c)) (in_time (used_after used c) cs) h).1

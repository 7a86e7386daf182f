-- A claim goes into a list, or back to the pair. Assumes nothing.
use Prim.Native.Nat.{ℕ}
use mathlib.Core.Bool.{Bool, true, false, not, cond}
use mathlib.Core.Path.{◌≡◌, refl, sym, ap, ◌∙◌}
use native.Mathlib.Omega.{arith}
use lib.Seq.{set-get_or}
use borrow.Author.Tests.{not-true, not-false}
use Rattle.std.proofs.Common.{Option, Some, None, Result, Result, Ok, Err}
use Rattle.types.specs.declared.Refusal.{Refusal}
use Rattle.types.specs.declared.Refusal.TheVariants.{OutOfRange, ListFull}
use Rattle.types.specs.declared.Reply.TheVariants as reply
use Rattle.types.specs.declared.VcpuId.{VcpuId}
use Rattle.types.specs.declared.Vector.{Vector}
use Rattle.types.specs.Reply.{Outcome, outcome_of, reply_number}
use Rattle.types.proofs.Replies.{refused_not_done}
use Rattle.vpic.specs.declared.PicInterruptClaim.{PicInterruptClaim}
use Rattle.vpic.specs.Words.{PicState}
use Rattle.vpic.specs.Pair.{StateClaim, claim_reply, claim_outcome, with_claim, done_outcome, restore_interrupt}
use Rattle.vpic.proofs.Codes.{claim_same}
use Rattle.waiting.specs.Answers.{taken_reply}
use Rattle.waiting.specs.Waiting as one
use Rattle.waiting.specs.Waiting.{Waiting, new_list, is_full}
use Rattle.waiting.specs.Lists.{Lists, known_in, list_at, with_list, on_list, take}
use Rattle.waiting_claims.specs.Claims.{Host, host, handed, claim_for}

-- what a list that is known is left by a vector that is taken in
took : (s : Lists) (id : VcpuId) (v : Vector) → known_in s id ≡ true → take s id v ≡ outcome_of (with_list s id (one.take (list_at s id) v).state) (one.take (list_at s id) v).reply
unfolding on_list
took s id v e = rw e refl

took_full : (s : Lists) (id : VcpuId) (v : Vector) → known_in s id ≡ true → is_full (list_at s id) ≡ true → take s id v ≡ outcome_of s (reply.Refused ListFull)
took_full s id v e f = took s id v e ∙ rw f (λ i. outcome_of (record { lists = set-get_or s.lists id.0 new_list i; rest = s.rest }) (reply.Refused ListFull))

took_room : (s : Lists) (id : VcpuId) (v : Vector) → known_in s id ≡ true → is_full (list_at s id) ≡ false → (take s id v).reply ≡ reply.Nothing
took_room s id v e f = ap (λ (o : Outcome Lists). o.reply) (took s id v e) ∙ rw f refl

pub hand_nothing : (s : Lists) (p : PicState) (id : VcpuId) (claim : Option PicInterruptClaim) → claim ≡ None → outcome_of (host s p) (claim_reply None) ≡ handed s p id claim
hand_nothing s p id claim e = rw e refl

part : Lists → PicState → VcpuId → PicInterruptClaim → Bool → Outcome Host
part s p id c b =
    cond b (outcome_of (host s (restore_interrupt p c).state) (reply.Refused ListFull)) (outcome_of (host (take s id c.vector).state p) (claim_reply (Some c)))

module _ (s s' : Lists) (p : PicState) (id : VcpuId) (claim : Option PicInterruptClaim) (c : PicInterruptClaim) (t : Result (Unit {0}) Refusal) (ec : claim ≡ Some c) (known : known_in s id ≡ true)
    (e : outcome_of s' (taken_reply t) ≡ take s id c.vector) where
  said : taken_reply t ≡ (take s id c.vector).reply
  said = ap (λ (o : Outcome Lists). o.reply) e

  left : s' ≡ (take s id c.vector).state
  left = ap (λ (o : Outcome Lists). o.state) e

  pub hand_done : t ≡ Ok tt → outcome_of (host s' p) (claim_reply (Some c)) ≡ handed s p id claim
  unfolding part said left
  hand_done et = rw ec (go (is_full (list_at s id)) refl)
    where
      go : (b : Bool) → is_full (list_at s id) ≡ b → outcome_of (host s' p) (claim_reply (Some c)) ≡ part s p id c b
      go false f = ap (λ (x : Lists). outcome_of (host x p) (claim_reply (Some c))) left
      go true f =
          absurd
          (let z : ◌≡◌ {A = ℕ} 0 9 =
          ap (λ (x : Result (Unit {0}) Refusal). reply_number (taken_reply x)) (sym et) ∙ ap reply_number said ∙ ap (λ (o : Outcome Lists). reply_number o.reply) (took_full s id c.vector known f) in
          omega arith)

  pub hand_back : (why : Refusal) (p' : PicState) (d : Result (Unit {0}) Refusal) → t ≡ Err why → done_outcome p' d ≡ restore_interrupt p c → outcome_of (host s' p') (reply.Refused why) ≡ handed s p id claim
  unfolding part said left
  hand_back why p' d et r = rw ec (go (is_full (list_at s id)) refl)
    where
      go : (b : Bool) → is_full (list_at s id) ≡ b → outcome_of (host s' p') (reply.Refused why) ≡ part s p id c b
      go true f =
          let x : outcome_of s' (reply.Refused why) ≡ outcome_of s (reply.Refused ListFull) =
          ap (λ (y : Result (Unit {0}) Refusal). outcome_of s' (taken_reply y)) (sym et) ∙ e ∙ took_full s id c.vector known f in
          λ i. outcome_of (host (x i).state (r i).state) (x i).reply
      go false f =
          absurd
          (let z : reply_number (reply.Refused why) ≡ 0 =
          ap (λ (y : Result (Unit {0}) Refusal). reply_number (taken_reply y)) (sym et) ∙ ap reply_number (said ∙ took_room s id c.vector known f) in
          refused_not_done why z)

-- ---- the calls

pub for_unknown : (s : Lists) (p : PicState) (id : VcpuId) (claim : PicState → StateClaim) (b : Bool) → b ≡ known_in s id → not b ≡ true
    → outcome_of (host s p) (reply.Refused OutOfRange) ≡ claim_for (host s p) id claim
unfolding claim_for
for_unknown s p id claim b e n = let f : known_in s id ≡ false = sym e ∙ not-true b n in rw f refl

pub for_known : (s : Lists) (p p' : PicState) (id : VcpuId) (claim : PicState → StateClaim) (b : Bool) (c : Option PicInterruptClaim) (o : Outcome Host) → b ≡ known_in s id → not b ≡ false
    → claim_outcome p' c ≡ with_claim (claim p) → o ≡ handed s p' id c → o ≡ claim_for (host s p) id claim
unfolding claim_for
for_known s p p' id claim b c o e n r h =
    let f : known_in s id ≡ true = sym e ∙ not-false b n in
    let same : (p' ≡ (claim p).state) × (c ≡ (claim p).claim) = claim_same p' (claim p).state c (claim p).claim r in
    rw f (h ∙ (λ i. handed s (same.0 i) id (same.1 i)))

-- Lines in a buffer that has room for all of them. Assumes nothing.
use mathlib.Core.Path.{◌≡◌, ap, ◌∙◌}
use mathlib.Core.List.{List}
use Prim.Native.Nat.{ℕ, ◌+◌, ◌*◌, ◌≤◌}
use native.Mathlib.Omega.{arith}
use lib.ListN.{length}
use lib.Seq.{length-sets}
use borrow.Author.Tests.{le-leb}
use Rattle.io.specs.Counts.{IsPrefixLen}
use Rattle.io.proofs.Counting.{prefix_len_of_le}
use Rattle.types.specs.declared.Reply.{Reply}
use Rattle.reply_text.specs.Text.{Puts, in_room, words_in_room, words_line, line, too_long_line}
use Rattle.reply_text.proofs.Puts.{then_put}
use Rattle.script_machine.specs.Run.{Said, did, stopped}
use Rattle.script_machine.specs.declared.Stop.{Stop}
use Rattle.script_print.specs.Printed.{stop_text, said_text}
use Rattle.script_print.proofs.Printing.{put_all}
use Rattle.script_states.specs.States.{chips_text}

same_size : {l m : List ℕ} {at end : ℕ} {vs : List ℕ} → Puts l at vs m end → length m ≡ length l
same_size {l} {m} {at} {end} {vs} p = ap length p.buffer ∙ length-sets l at vs

pub put_all_words : {l m : List ℕ} {at end : ℕ} (ws : List ℕ) → at + 21 * length ws + 1 ≤ length l → Puts l at (words_in_room (length l) at ws) m end → Puts l at (words_line ws) m end
put_all_words {l} {m} {at} ws h p = rw (le-leb (at + 21 * length ws + 1) (length l) h) at p

-- five lines of words, one behind the other
module _ {l m₁ m₂ m₃ m₄ m₅ : List ℕ} {at e₁ e₂ e₃ e₄ e₅ : ℕ} (io pair a bio ba : List ℕ)
    (n₁ : length io ≡ 32) (n₂ : length pair ≡ 4) (n₃ : length a ≡ 48) (n₄ : length bio ≡ 32) (n₅ : length ba ≡ 48) (room : at + 3449 ≤ length l)
    (p₁ : Puts l at (words_in_room (length l) at io) m₁ e₁) (h₁ : e₁ ≤ at + 21 * length io + 1)
    (p₂ : Puts m₁ e₁ (words_in_room (length m₁) e₁ pair) m₂ e₂) (h₂ : e₂ ≤ e₁ + 21 * length pair + 1)
    (p₃ : Puts m₂ e₂ (words_in_room (length m₂) e₂ a) m₃ e₃) (h₃ : e₃ ≤ e₂ + 21 * length a + 1)
    (p₄ : Puts m₃ e₃ (words_in_room (length m₃) e₃ bio) m₄ e₄) (h₄ : e₄ ≤ e₃ + 21 * length bio + 1)
    (p₅ : Puts m₄ e₄ (words_in_room (length m₄) e₄ ba) m₅ e₅) (h₅ : e₅ ≤ e₄ + 21 * length ba + 1) where
  pub chips_put : Puts l at (chips_text io pair a bio ba) m₅ e₅
  chips_put =
      let s₁ = same_size p₁ in
      let s₂ = same_size p₂ in
      let s₃ = same_size p₃ in
      let s₄ = same_size p₄ in
      then_put (put_all_words io (omega arith) p₁)
      (then_put (put_all_words pair (omega arith) p₂)
      (then_put (put_all_words a (omega arith) p₃)
      (then_put (put_all_words bio (omega arith) p₄)
      (put_all_words ba (omega arith) p₅))))

  pub chips_end : e₅ ≤ at + 3449
  chips_end = omega arith

-- a step that performed a field, and one that didn't
pub did_put : {l m k : List ℕ} {end last : ℕ} {said : Said} (place : ℕ) (rest : List ℕ) (tag : ℕ) (r : Reply) → 4096 ≤ length l → said ≡ did tag r
    → Puts l 0 (in_room (length l) 0 (line tag r)) m end → Puts m end rest k last → Puts l 0 (said_text said place rest) k last
did_put {l} {m} {k} {end} place rest tag r room e p q = rw e (then_put (put_all l 0 (line tag r) m end (omega arith) p) q)

pub stopped_put : {l m : List ℕ} {end : ℕ} {said : Said} (place : ℕ) (rest : List ℕ) (why : Stop) → 4096 ≤ length l → said ≡ stopped why
    → Puts l 0 (in_room (length l) 0 (stop_text why place)) m end → Puts l 0 (said_text said place rest) m end
stopped_put {l} {m} {end} place rest why room e p = rw e (put_all l 0 (stop_text why place) m end (omega arith) p)

-- what was put is at the buffer's start
pub put_counts : {l m : List ℕ} {end : ℕ} {vs : List ℕ} → length l ≡ 4096 → Puts l 0 vs m end → end ≤ 4096 → IsPrefixLen end m
put_counts {l} {m} {end} {vs} n p h = prefix_len_of_le end m (omega (arith, same_size p))

-- a script that is too long
pub refusal_put : {l m : List ℕ} {end : ℕ} → length l ≡ 4096 → Puts l 0 (in_room (length l) 0 too_long_line) m end → end ≤ 80
    → Puts l 0 too_long_line m end × IsPrefixLen end m
refusal_put {l} {m} {end} n p h = (put_all l 0 too_long_line m end (omega arith) p, put_counts n p (omega arith))

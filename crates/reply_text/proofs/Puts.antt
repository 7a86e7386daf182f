-- Texts in a lent buffer, one put behind the other. Assumes nothing.
use mathlib.Core.Bool.{Bool, true, false, cond}
use mathlib.Core.List.{List, [], ◌∷◌, ◌++◌, append_assoc}
use mathlib.Core.Path.{◌≡◌, refl, sym, ap, ◌∙◌}
use Prim.Native.Nat.{ℕ, suc, ◌+◌, ◌-◌, ◌%◌, ◌≤◌, ◌<◌}
use native.Mathlib.Nat.{mod-eq_of_lt}
use native.Mathlib.Numerals.{add-one}
use native.Mathlib.Omega.{arith}
use lib.ListN.{length, take, get_or, set, length-append}
use lib.Seq.{sets, take-suc}
use lib.Dec.{ltb}
use borrow.Author.Tests.{lt-ltb, le-ltb}
use Rattle.io.specs.Digits.{hex_digit_ascii}
use Rattle.reply_text.specs.Text.{Puts, decimal_in, decimal, space, words_text}

sets_append : (l : List ℕ) (i : ℕ) (vs ws : List ℕ) → sets l i (vs ++ ws) ≡ sets (sets l i vs) (i + length vs) ws
sets_append l i [] ws = let z : i + 0 ≡ i = omega arith in rw z
sets_append l i (v ∷ vs) ws =
    let z : i + suc (length vs) ≡ suc i + length vs = omega arith in
    rw z (sets_append (set l i v) (suc i) vs ws)

-- bytes behind others
pub then_put : {l m k : List ℕ} {at end last : ℕ} {vs ws : List ℕ} → Puts l at vs m end → Puts m end ws k last → Puts l at (vs ++ ws) k last
then_put {l} {m} {k} {at} {end} {last} {vs} {ws} p q =
    let z : at + length vs + length ws ≡ at + (length vs + length ws) = omega arith in
    record {
      buffer = q.buffer ∙ rw (p.buffer, p.end, sets_append l at vs ws);
      end = q.end ∙ rw (p.end, length-append, z);
    }

pub then_byte : {l m k : List ℕ} {at end last b : ℕ} {ws : List ℕ} → Puts l at (b ∷ []) m end → Puts m end ws k last → Puts l at (b ∷ ws) k last
then_byte p q = then_put p q

-- a byte in its other name, and bytes
pub put_is : {l m : List ℕ} {at end b c : ℕ} → b ≡ c → Puts l at (b ∷ []) m end → Puts l at (c ∷ []) m end
put_is e p = rw e at p

pub put_as : {l m : List ℕ} {at end : ℕ} {vs ws : List ℕ} → vs ≡ ws → Puts l at vs m end → Puts l at ws m end
put_as e p = rw e at p

-- a line where there is room, and none where there isn't
pub put_room : {l m : List ℕ} {at end : ℕ} {vs : List ℕ} {b : Bool} → b ≡ true → Puts l at vs m end → Puts l at (cond b vs []) m end
put_room e p = rw e p

pub put_no_room : {l : List ℕ} {at : ℕ} (vs : List ℕ) {b : Bool} → b ≡ false → Puts l at (cond b vs []) l at
put_no_room vs e = rw e (record { buffer = refl; end = omega arith })

-- a digit above nine
pub digit_letter : (d : ℕ) → 10 ≤ d → 97 + (d - 10) ≡ hex_digit_ascii d
digit_letter d h = let t : ltb d 10 ≡ false = le-ltb d 10 h in rw t (omega arith)

-- ---- decimals

pub small_decimal : (n : ℕ) → n < 10 → hex_digit_ascii (n % 16) ∷ [] ≡ decimal n
unfolding decimal_in
small_decimal n h =
    let t : ltb n 10 ≡ true = lt-ltb n 10 h in
    let m : n % 16 ≡ n = mod-eq_of_lt (omega arith) in
    rw (m, t)

-- ---- words

words_append : (us ws : List ℕ) → words_text (us ++ ws) ≡ words_text us ++ words_text ws
unfolding words_text
words_append [] ws = refl
words_append (u ∷ us) ws =
    ap (λ (x : List ℕ). decimal u ++ (space ∷ x)) (words_append us ws) ∙ sym (append_assoc (decimal u) (space ∷ words_text us) (words_text ws))

pub one_more_word : (ws : List ℕ) (k : ℕ) → k < length ws → words_text (take k ws) ++ (decimal (get_or ws k 0) ++ (space ∷ [])) ≡ words_text (take (k + 1) ws)
unfolding words_text
one_more_word ws k h =
    let t : take (k + 1) ws ≡ take k ws ++ (get_or ws k 0 ∷ []) = rw (add-one k) (take-suc ws k 0 h) in
    sym (ap words_text t ∙ words_append (take k ws) (get_or ws k 0 ∷ []))

-- Texts on a page, one put behind the other. Assumes nothing.
use mathlib.Core.List.{List, [], ◌∷◌, ◌++◌}
use mathlib.Core.Path.{◌≡◌, refl, sym, ap, ◌∙◌}
use Prim.Native.Nat.{ℕ, ◌+◌, ◌^◌, ◌≤◌, ◌<◌}
use native.Mathlib.Numerals.{add-one}
use native.Mathlib.Omega.{arith}
use lib.ListN.{length, take, get_or}
use lib.Seq.{take-suc, take_all}
use Rattle.io.specs.Digits.{last_digits, IsDigitCount}
use Rattle.reply_text.specs.declared.Page.{Page}
use Rattle.reply_text.specs.Text.{decimal, space, newline, words_text, words_line}
use Rattle.reply_text.specs.Pages.{PutsOn}
use Rattle.reply_text.proofs.Digits.{at_most_20, digits_decimal}
use Rattle.reply_text.proofs.Puts.{then_put, one_more_word}

-- bytes behind others
pub then_text : {p q r : Page} {vs ws : List ℕ} → PutsOn p vs q → PutsOn q ws r → PutsOn p (vs ++ ws) r
then_text a b = record { puts = then_put a.puts b.puts; long = b.long ∙ a.long }

pub then_byte : {p q r : Page} {b : ℕ} {ws : List ℕ} → PutsOn p (b ∷ []) q → PutsOn q ws r → PutsOn p (b ∷ ws) r
then_byte a b = then_text a b

-- bytes in their other name
pub text_is : {p q : Page} {vs ws : List ℕ} → vs ≡ ws → PutsOn p vs q → PutsOn p ws q
text_is e a = rw e at a

pub byte_is : {p q : Page} {b c : ℕ} → b ≡ c → PutsOn p (b ∷ []) q → PutsOn p (c ∷ []) q
byte_is e a = rw e at a

-- bytes put one by one
pub no_bytes : {p : Page} (ws : List ℕ) → PutsOn p (take 0 ws) p
no_bytes ws = record { puts = record { buffer = refl; end = omega arith }; long = refl }

pub more_bytes : {p q r : Page} (ws : List ℕ) (k : ℕ) → k < length ws → PutsOn p (take k ws) q → PutsOn q (get_or ws k 0 ∷ []) r → PutsOn p (take (k + 1) ws) r
more_bytes ws k h a b = text_is (sym (rw (add-one k) (take-suc ws k 0 h))) (then_text a b)

pub all_bytes : {p q : Page} (ws : List ℕ) (k : ℕ) → length ws ≤ k → PutsOn p (take k ws) q → PutsOn p ws q
all_bytes ws k h a = text_is (take_all k ws h) a

-- a number's digits
pub digits_are : (n k : ℕ) (d : List ℕ) → n < 2 ^ 64 → d ≡ last_digits 10 k n → IsDigitCount 10 1 n k → d ≡ decimal n
digits_are n k d fits e count = e ∙ digits_decimal k 20 n count (at_most_20 n k fits count)

-- words put one by one
pub no_words : {p : Page} (ws : List ℕ) → PutsOn p (words_text (take 0 ws)) p
unfolding words_text
no_words ws = record { puts = record { buffer = refl; end = omega arith }; long = refl }

pub more_words : {p q r s : Page} (ws : List ℕ) (k : ℕ) → k < length ws → PutsOn p (words_text (take k ws)) q
    → PutsOn q (decimal (get_or ws k 0)) r → PutsOn r (space ∷ []) s → PutsOn p (words_text (take (k + 1) ws)) s
more_words ws k h a b c = text_is (one_more_word ws k h) (then_text a (then_text b c))

pub all_words : {p q r : Page} (ws : List ℕ) (k : ℕ) → length ws ≤ k → PutsOn p (words_text (take k ws)) q → PutsOn q (newline ∷ []) r → PutsOn p (words_line ws) r
all_words ws k h a b = then_text (text_is (ap words_text (take_all k ws h)) a) b

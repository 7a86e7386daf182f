-- The words of a board with the pair, in one row: the I/O APIC's 32, the local APIC's 48, the pair's 4. Of the version, the mode and the rule, whatever number stands there is spelled as
-- what it means; of a chip of the pair, the bits that stand for something go; of every other word the format takes as many low bytes as stand for something, so that one state has one
-- image.
use Rattle.std.specs.Prelude.{ℕ, zero, suc, ◌-◌, ◌%◌, ◌^◌, not, cond, List, [], ◌∷◌, eqb, ltb, get_or}
use Rattle.types.specs.Reply.{flag}
use Rattle.vioapic.specs.IoApic.{version_number, version_of}
use Rattle.vpic.specs.Words.{is_full}
use Rattle.vpic.specs.Pair.{rule_number, rule_in}

-- a chip's word of the pair, without the bits that stand for nothing by its rule
abbrev pub chip_word : ℕ → ℕ → ℕ
chip_word rule w = cond (is_full rule) (w % 2 ^ 51) (w % 2 ^ 44)

-- word k of the row
unfoldable pub word_at : List ℕ → List ℕ → List ℕ → ℕ → ℕ
word_at io apic pair k =
    cond (eqb k 29) (version_number (version_of (get_or io 29 0)))
    (cond (eqb k 32) (flag (not (eqb (get_or apic 0 0) 0)))
    (cond (eqb k 82) (rule_number (rule_in (get_or pair 2 0)))
    (cond (ltb k 32) (get_or io k 0)
    (cond (ltb k 80) (get_or apic (k - 32) 0)
    (chip_word (get_or pair 2 0) (get_or pair (k - 80) 0))))))

-- n of them from k on
unfoldable pub listed : (ℕ → ℕ) → ℕ → ℕ → List ℕ
listed f k zero = []
listed f k (suc n) = f k ∷ listed f (suc k) n

unfoldable pub gathered : List ℕ → List ℕ → List ℕ → List ℕ
gathered io apic pair = listed (word_at io apic pair) 0 84

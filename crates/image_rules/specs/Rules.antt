-- The rules that an image's chips must keep (document 02, T-11): what every call keeps, as a test. The definitions are the chips' own.
-- 82093AA: IOREDTBL (Delivery Status, Remote IRR). Intel SDM volume 3, the APIC chapter: local APIC ID, TPR, PPR, LDR, DFR, ESR, LVT, ICR; valid
-- interrupt vectors (16 to 255). 8259A: ICW2 (bits 3 to 7 of the vector), the initialization sequence, cascade mode.
use Rattle.std.specs.Prelude.{ℕ, zero, suc, ◌*◌, ◌/◌, ◌%◌, Bool, true, false, not, cond, ◌&&◌, ◌||◌, List, ltb, eqb}
use Rattle.utils.specs.Set.{bit}
use Rattle.vioapic_entry.specs.Redirection.{remote_irr, is_level, is_fit}
use Rattle.vioapic_entry.specs.declared.Entry.{Entry}
use Rattle.vioapic.specs.State.{IoApicState, view as io_view}
use Rattle.vioapic.specs.Table.{is_version20, entry_at}
use Rattle.vioapic.specs.IoApic.{is_version}
use Rattle.vioapic.specs.declared.IoApicVersion.{IoApicVersion}
use Rattle.vioapic.specs.declared.IoApicVersion.TheVariants.{V11, V20}
use Rattle.vioapic_theorems.specs.Rules.{implies, entry_rules}
use Rattle.vlapic_regs.specs.Lvt.{lvt_timer, lvt_error, lvt_pin, lvt_monitor}
use Rattle.vlapic_regs.specs.Register.{low_byte, top_byte, model_bits}
use Rattle.vlapic_icr.specs.Fields.{idle}
use Rattle.vlapic_words.specs.Words.{word, view}
use Rattle.vlapic_requests.specs.Requests.{write_tpr}
use Rattle.vpic_chip.specs.Registers.{Chip}
use Rattle.vpic_chip.specs.Chip.{cascade_irq, asks}
use Rattle.vpic.specs.Words.{PicState}
use Rattle.vpic.specs.Pair.{is_rule, is_cascade}

-- each of the first n
unfoldable pub all : ℕ → (ℕ → Bool) → Bool
all zero p = true
all (suc n) p = all n p && p n

abbrev pub same : Bool → Bool → Bool
same true b = b
same false b = not b

-- ---- the I/O APIC

-- an entry: whether it is in flight agrees with the word of lines in flight; deferred only in flight, in flight only level, and in version 0x11 fit to be sent; in version 0x20 Delivery
-- Status, bit 12, is clear
abbrev pub entry_keeps : Bool → Bool → Entry → Bool
entry_keeps version20 flies e = same (remote_irr e.word) flies && (entry_rules version20 e && implies version20 (not (bit e.word 12)))

abbrev pub entry_keeps_at : IoApicState → ℕ → Bool
entry_keeps_at s g = entry_keeps (is_version20 s) (bit s.in_flight g) (entry_at s g)

-- of the I/O APIC's words
unfoldable pub entry_kept : List ℕ → ℕ → Bool
entry_kept words g = entry_keeps_at (io_view words) g

unfoldable pub ioapic_keeps : IoApicState → Bool
ioapic_keeps s = is_version s.version && all 24 (entry_keeps_at s)

-- of the two parts of an entry's rules, the one of an entry in flight
abbrev pub may_fly : Bool → ℕ → Bool
may_fly version20 w = is_level w && (version20 || is_fit w)

abbrev pub is_v20 : IoApicVersion → Bool
is_v20 V11 = false
is_v20 V20 = true

-- ---- the local APIC

-- the id: all bits in x2APIC mode, a byte in xAPIC mode
abbrev pub id_kept : Bool → ℕ → ℕ
id_kept x2apic x = cond x2apic x (low_byte x)

-- of the errors, bits 5 and 6
abbrev pub errors : ℕ → ℕ
errors x = x / 32 % 4 * 32

-- of the first words of ISR and IRR, nothing below vector 16
abbrev pub legal : ℕ → ℕ
legal x = x / 65536 * 65536

-- what a register of this word keeps of a value
unfoldable pub kept_of : Bool → ℕ → ℕ → ℕ
kept_of x2apic k x =
    cond (eqb k 1) (id_kept x2apic x)
    (cond (eqb k 2) (low_byte x)
    (cond (eqb k 4) (top_byte x)
    (cond (eqb k 5) (model_bits x)
    (cond (eqb k 7) (errors x)
    (cond (eqb k 8) (errors x)
    (cond (eqb k 9) (idle x)
    (cond (eqb k 10) (cond x2apic x (top_byte x))
    (cond (eqb k 11) (lvt_monitor x)
    (cond (eqb k 12) (lvt_timer x)
    (cond (eqb k 13) (lvt_monitor x)
    (cond (eqb k 14) (lvt_monitor x)
    (cond (eqb k 15) (lvt_pin x)
    (cond (eqb k 16) (lvt_pin x)
    (cond (eqb k 17) (lvt_error x)
    (cond (eqb k 18) (legal x)
    (cond (eqb k 34) (legal x)
    x))))))))))))))))

-- every word holds what its register keeps, and PPR is what a write of the same TPR makes it
abbrev pub word_keeps : List ℕ → ℕ → Bool
word_keeps l k = eqb (kept_of (view l).x2apic k (word l k)) (word l k)

abbrev pub ppr_keeps : List ℕ → Bool
ppr_keeps l = eqb (write_tpr (view l) (word l 2)).ppr (word l 3)

unfoldable pub apic_keeps : List ℕ → Bool
apic_keeps l = all 42 (word_keeps l) && ppr_keeps l

-- ---- the pair

-- a chip: its base is what ICW2 leaves, its step one of initialization's, and no bit is set that stands for nothing; where it isn't a full one, those of the full profile stand for nothing
abbrev pub chip_keeps : Chip → Bool
chip_keeps c = eqb (c.vector_base % 8) 0 && (ltb c.init_step 4 && eqb c.spare 0)

-- where the rule follows it, the master's request 2 is the slave's output
abbrev pub cascade_keeps : PicState → Bool
cascade_keeps p = implies (is_cascade p) (same (bit p.master.request cascade_irq.0) (asks p.slave))

unfoldable pub keeps_pair : PicState → Bool
keeps_pair p = is_rule p.rule && (eqb p.spare 0 && (chip_keeps p.master && (chip_keeps p.slave && cascade_keeps p)))

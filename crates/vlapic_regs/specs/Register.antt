-- Registers of one word: what each keeps of a value that is written to it, what a read of the id shows, and the words that follow from others.
-- Intel SDM volume 3, the APIC chapter: local APIC ID; task and processor priorities (TPR, PPR); LDR; DFR; SVR; ESR (error handling); signaling interrupt
-- servicing completion (EOI; SVR bit 12, suppress EOI broadcasts); and the chapter on APIC virtualization: PPR virtualization.
use Rattle.std.specs.Prelude.{ℕ, ◌+◌, ◌*◌, ◌/◌, ◌%◌, Bool, not, cond, ◌&&◌, leb}
use Rattle.utils.specs.Set.{bit, with}
use Rattle.utils.specs.Vectors.{class_of}
use Rattle.vlapic_regs.specs.declared.register.Errors.{Errors}

-- the id: the whole word in x2APIC mode, the top byte in xAPIC mode
abbrev pub id_word : Bool → ℕ → ℕ
id_word x2apic id = cond x2apic id (id % 256 * 0x1000000)

-- ---- what is kept of a value

-- TPR: eight bits
abbrev pub low_byte : ℕ → ℕ
low_byte v = v % 0x100  -- D-82: reserved bits are dropped in x2APIC mode too (so they are of the LVT and of SELF IPI)

-- LDR and the ICR's high word: the top byte
abbrev pub top_byte : ℕ → ℕ
top_byte v = v / 0x1000000 * 0x1000000

-- DFR: the top four bits, the model
abbrev pub model_bits : ℕ → ℕ
model_bits v = v / 0x10000000 * 0x10000000 + 0xfffffff

-- ---- errors

-- a write of ESR, whatever the value, shows the errors since the last one
abbrev pub errors_shown : ℕ → Errors
errors_shown pending = record { esr = pending; esr_pending = 0 }

-- a vector below 16 that was to be sent is noted among the pending errors: bit 5, send illegal vector
abbrev pub illegal_noted : ℕ → ℕ
illegal_noted pending = with pending 5  -- D-70: no interrupt from the error LVT

-- ---- priority

-- PPR is TPR if TPR's class is at least that of the highest vector in service; else that class, with subclass 0
unfoldable pub priority : ℕ → ℕ → ℕ
priority tpr isrv = cond (leb (class_of isrv) (class_of tpr)) tpr (class_of isrv * 16)  -- D-83: TPR isn't cut to 8 bits

-- an EOI message goes to the I/O APICs if the vector is level-triggered, unless SVR suppresses it
abbrev pub broadcast : Bool → ℕ → Bool
broadcast level svr = level && not (bit svr 12)

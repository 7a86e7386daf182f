-- The words of an interrupt command and the fields of the low one.
-- Intel SDM volume 3, the APIC chapter: interrupt command register (ICR), with its table of valid combinations of shorthand and delivery mode; error handling
-- (send illegal vector).
use Rattle.std.specs.Prelude.{ℕ, ◌/◌, ◌%◌, ◌*◌, ◌+◌, Bool, not, cond, ◌&&◌, ◌||◌, eqb, ltb, leb}
use Rattle.utils.specs.Set.{bit}

abbrev pub vector_field : ℕ → ℕ
vector_field lo = lo % 256

-- 0 fixed, 1 lowest priority, 2 SMI, 4 NMI, 5 INIT, 6 startup; 3 and 7 are reserved
abbrev pub delivery_mode : ℕ → ℕ
delivery_mode lo = lo / 256 % 8

abbrev pub is_logical : ℕ → Bool
is_logical lo = bit lo 11

-- 0 none, 1 self, 2 all including self, 3 all excluding self
abbrev pub shorthand : ℕ → ℕ
shorthand lo = lo / 262144 % 4

-- bit 12, the delivery status, reads 0: the command is sent at once
abbrev pub idle : ℕ → ℕ
idle lo = lo / 8192 * 8192 + lo % 4096

-- the ICR is written whole, by 8 bytes, in x2APIC mode, and never by 8 bytes in xAPIC mode, where its high word has its own offset
abbrev pub icr_width : Bool → ℕ → Bool
icr_width x2apic width = cond x2apic (eqb width 8) (not (eqb width 8))

-- its high word after that: the value's in x2APIC mode, else the one that stands there
abbrev pub icr_high : Bool → ℕ → ℕ → ℕ
icr_high x2apic val hi = cond x2apic (val / 0x100000000) hi

-- the destination in the high word: its top byte in xAPIC mode, the whole word in x2APIC mode; all ones is everybody
abbrev pub destination_field : Bool → ℕ → ℕ
destination_field x2apic hi = cond x2apic hi (hi / 0x1000000)

abbrev pub all_ones : Bool → ℕ → Bool
all_ones x2apic hi = eqb (destination_field x2apic hi) (cond x2apic 0xffffffff 0xff)

abbrev pub is_reserved_mode : ℕ → Bool
is_reserved_mode lo = eqb (delivery_mode lo) 3 || eqb (delivery_mode lo) 7

abbrev pub is_illegal_vector : ℕ → Bool
is_illegal_vector lo = eqb (delivery_mode lo) 0 && ltb (vector_field lo) 16  -- D-75: of lowest priority no error is noted

-- to self or to all including self
abbrev pub includes_self : ℕ → Bool
includes_self lo = eqb (shorthand lo) 1 || eqb (shorthand lo) 2

-- NMI, INIT or startup to those
abbrev pub is_invalid_shorthand : ℕ → Bool
is_invalid_shorthand lo = includes_self lo && (leb 4 (delivery_mode lo) && leb (delivery_mode lo) 6)

-- lowest priority and SMI
abbrev pub is_unsent : ℕ → Bool
is_unsent lo = eqb (delivery_mode lo) 1 || eqb (delivery_mode lo) 2

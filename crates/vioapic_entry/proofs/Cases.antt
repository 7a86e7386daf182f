-- The rules of one entry, computed: for each the smallest case that tells it from a wrong one.
use Rattle.std.specs.Prelude.{Option, Some, None}
use mathlib.Core.Bool.{Bool, true, false}
use mathlib.Core.Path.{◌≡◌, refl}
use Prim.Native.Nat.{ℕ}
use Rattle.vioapic_entry.specs.Redirection.{is_fit, send_entry, end_entry, end_entry20, write_low, write_high, without_status, store_low20, write_low20}
use Rattle.vioapic_entry.specs.declared.Entry.{Entry}
use Rattle.vioapic_entry.specs.declared.IoApicInterrupt.{IoApicInterrupt}

abbrev entry : ℕ → Bool → Bool → Entry
entry w deferred up = record { word = w; pending_level = deferred; input_level = up }

abbrev sent : ℕ → Bool → Option IoApicInterrupt
sent v level = Some (record { vector = record { 0 = v }; level_triggered = level })

-- vector 16 can be delivered, and 15 can't; a masked entry can't be sent, nor one of another delivery mode
pub fit_cases : (is_fit 0x10 ≡ true) × (is_fit 0x0F ≡ false) × (is_fit 0x10010 ≡ false) × (is_fit 0x110 ≡ false)
fit_cases = (refl, refl, refl, refl)

-- an edge entry, and a level entry that isn't in flight, are sent; one in flight is deferred
pub send_cases :
    (send_entry (entry 0x30 false false) ≡ record { entry = entry 0x30 false false; answer = sent 0x30 false })
    × (send_entry (entry 0x8030 false false) ≡ record { entry = entry 0xC030 false false; answer = sent 0x30 true })
    × (send_entry (entry 0xC030 false false) ≡ record { entry = entry 0xC030 true false; answer = None })
unfolding send_entry
send_cases = (refl, refl, refl)

-- with its line up the entry is sent again and what was deferred stays so; with its line down it is sent for what was deferred
pub end_cases :
    (end_entry (entry 0xC030 true true) ≡ record { entry = entry 0xC030 true true; answer = sent 0x30 true })
    × (end_entry (entry 0xC030 true false) ≡ record { entry = entry 0xC030 false false; answer = sent 0x30 true })
    × (end_entry (entry 0xC030 false false) ≡ record { entry = entry 0x8030 false false; answer = None })
unfolding end_entry send_entry
end_cases = (refl, refl, refl)

-- in version 0x20 nothing stays deferred
pub end20_cases :
    (end_entry20 (entry 0xC030 true true) ≡ record { entry = entry 0xC030 false true; answer = sent 0x30 true })
    × (end_entry20 (entry 0xC030 false false) ≡ record { entry = entry 0x8030 false false; answer = None })
unfolding end_entry20 send_entry
end20_cases = (refl, refl)

-- the same low word leaves the flight, another one ends it, and a masked entry has nothing deferred
pub write_cases :
    (write_low (entry 0xC030 true false) 0x8030 ≡ entry 0xC030 true false)
    × (write_low (entry 0xC030 true false) 0x8031 ≡ entry 0x8031 false false)
    × (write_low (entry 0x1C030 true false) 0x18030 ≡ entry 0x1C030 false false)
    × (write_high (entry 0xC030 true false) 1 ≡ entry 0x10000C030 true false)
unfolding write_low write_high
write_cases = (refl, refl, refl, refl)

-- version 0x20: a mask keeps the flight and forgets what was deferred; so does another vector; an edge word ends the flight; Delivery Status isn't stored, and reads 0
pub mask_case : write_low20 (entry 0xC030 false true) 0x18030 ≡ record { entry = entry 0x1C030 false true; answer = None }
unfolding write_low20 store_low20 send_entry
mask_case = refl

pub deferred_case :
    (write_low20 (entry 0xC030 true true) 0x8031 ≡ record { entry = entry 0xC031 false true; answer = None })
    × (write_low20 (entry 0xC030 true true) 0x8030 ≡ record { entry = entry 0xC030 true true; answer = None })
    × (write_low20 (entry 0x1C030 true true) 0x18030 ≡ record { entry = entry 0x1C030 false true; answer = None })
unfolding write_low20 store_low20 send_entry
deferred_case = (refl, refl, refl)

pub edge_case : write_low20 (entry 0xC030 false true) 0x30 ≡ record { entry = entry 0x30 false true; answer = None }
unfolding write_low20 store_low20 send_entry
edge_case = refl

pub status_case : (write_low20 (entry 0x30 false false) 0x5030 ≡ record { entry = entry 0x30 false false; answer = None }) × (without_status 0x1030 ≡ 0x30)
unfolding write_low20 store_low20 send_entry
status_case = (refl, refl)

-- and a level entry whose line is up and that isn't in flight is sent, once, if it is fit
pub owed_cases :
    (write_low20 (entry 0x18030 false true) 0x8030 ≡ record { entry = entry 0xC030 false true; answer = sent 0x30 true })
    × (write_low20 (entry 0xC030 false true) 0x8030 ≡ record { entry = entry 0xC030 false true; answer = None })
    × (write_low20 (entry 0x18030 false false) 0x8030 ≡ record { entry = entry 0x8030 false false; answer = None })
    × (write_low20 (entry 0x18030 false true) 0x30 ≡ record { entry = entry 0x30 false true; answer = None })
    × (write_low20 (entry 0x18030 false true) 0x800F ≡ record { entry = entry 0x800F false true; answer = None })
unfolding write_low20 store_low20 send_entry
owed_cases = (refl, refl, refl, refl, refl)

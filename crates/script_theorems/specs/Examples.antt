-- The numbered examples 1 to 12 of document 01, about the definitions: one list under one statement, computed. Each is a list of calls on a new machine for which version 0x11 and
-- the pair's rule 0 were chosen (document 02, T-14), what each of them says back (the number, and then the values), and what is looked at in the machine after them. And six more of the
-- same form on a new machine: of T-01, last spring's lines in both versions; of T-08, a line that is masked while it is served, in both; of T-02, examples 7 and 8 under the cascade rule.
use Rattle.std.specs.Prelude.{ℕ, suc, Bool, true, false, List, [], ◌∷◌, map, ◌≡◌, refl}
use Rattle.utils.specs.Set as set
use Rattle.types.specs.Reply.{reply_number, reply_values}
use Rattle.types.specs.declared.Reply.{Reply}
use Rattle.vioapic_entry.specs.Redirection as redirection
use Rattle.vioapic.specs.Table as table
use Rattle.vioapic.specs.Registers as window
use Rattle.vioapic.specs.IoApic as vioapic
use Rattle.vioapic.specs.Calls as ioapic
use Rattle.vioapic.specs.declared.IoApicVersion.{IoApicVersion}
use Rattle.vioapic.specs.declared.IoApicVersion.TheVariants.{V11, V20}
use Rattle.vpic.specs.declared.PicRule.TheVariants.{Latch}
use Rattle.vpic_priority.specs.Ring as ring
use Rattle.vpic_chip.specs.Chip as chip
use Rattle.vpic.specs.Pair as pair
use Rattle.vlapic_regs.specs.Register as register
use Rattle.vlapic_regs.specs.Vectors as vectors
use Rattle.vlapic_icr.specs.Icr as icr
use Rattle.vlapic.specs.Priority as priority
use Rattle.vlapic.specs.Registers as registers
use Rattle.vlapic.specs.Calls as vlapic
use Rattle.script_format.specs.declared.IoCall.TheVariants as io
use Rattle.script_format.specs.declared.PicCall.TheVariants as pic
use Rattle.script_format.specs.declared.ApicCall.TheVariants as apic
use Rattle.script_format.specs.declared.Call.{Call}
use Rattle.script_format.specs.declared.Call.TheVariants.{Io, IoVersion, Pic, PicRule, Apic}
use Rattle.script_machine.specs.Machine as machine
use Rattle.script_machine.specs.Machine.{Machine, new_machine, performed}
use Rattle.script_machine.specs.Run.{after_calls, replies}

pub record Example : Type 0 where
  pub number : ℕ
  pub calls : List Call
  pub says : List (List ℕ)
  pub look : Machine → List ℕ
  pub seen : List ℕ

abbrev pub numbers : Reply → List ℕ
numbers r = reply_number r ∷ reply_values r

-- the examples with these numbers, from the first to the last and in their order, on the machine m: each says what it should, and leaves what it should
abbrev pub Holds : Machine → ℕ → ℕ → List Example → Type 0
Holds m first last [] = first ≡ suc last
Holds m first last (e ∷ es) =
    ((e.number ≡ first) × (map numbers (replies m e.calls) ≡ e.says) × (e.look (after_calls m e.calls) ≡ e.seen))
    × Holds m (suc first) last es

-- the rules of document 01, named
abbrev pub old_rules : List Call
old_rules = IoVersion V11 ∷ PicRule Latch ∷ []

-- ---- the calls of the examples

-- the I/O APIC: the selector, the window
abbrev select : ℕ → Call
select register = Io (io.HandleWrite 0xfec00000 4 register)

abbrev write : ℕ → Call
write word = Io (io.HandleWrite 0xfec00010 4 word)

abbrev read : Call
read = Io (io.HandleRead 0xfec00010 4)

abbrev line : ℕ → Bool → Call
line gsi up = Io (io.SetGsiLevel (record { 0 = gsi }) up)

abbrev assert : ℕ → Call
assert gsi = Io (io.AssertGsi (record { 0 = gsi }))

abbrev eoi : ℕ → Call
eoi vector = Io (io.EndOfInterrupt (record { 0 = vector }))

-- an EOI by the other road: the EOI register
abbrev eoi_write : ℕ → Call
eoi_write word = Io (io.HandleWrite 0xfec00040 4 word)

-- the pair
abbrev outb : ℕ → ℕ → Call
outb port byte = Pic (pic.HandleWrite port 1 byte)

abbrev inb : ℕ → Call
inb port = Pic (pic.HandleRead port 1)

abbrev claim : ℕ → Call
claim irq = Pic (pic.ClaimIrq (record { 0 = irq }))

abbrev pending : Call
pending = Pic pic.ClaimPendingInterrupt

-- the local APIC
abbrev accept : ℕ → Call
accept vector = Apic (apic.AcceptInterrupt (record { 0 = vector }) true)

abbrev store : ℕ → ℕ → Call
store offset word = Apic (apic.HandleWrite offset 4 word)

abbrev load : ℕ → Call
load offset = Apic (apic.HandleRead offset)

abbrev end : Call
end = Apic apic.HandleEoi

abbrev nothing : Machine → List ℕ
nothing m = []

-- examples 7 and 8, which T-02 asks under its rule too
abbrev seventh : List Call
seventh =
    outb 0x21 0 ∷ outb 0xa1 0 ∷ claim 12 ∷ claim 13 ∷ claim 14 ∷ outb 0xa0 0x20 ∷ outb 0x20 0x20 ∷ pending ∷ outb 0xa0 0x20 ∷ outb 0x20 0x20 ∷ pending ∷ inb 0xa0 ∷ []

abbrev eighth : List Call
eighth =
    outb 0x21 0 ∷ outb 0xa1 0 ∷ claim 2
    ∷ Pic (pic.RestoreInterrupt (record { vector = record { 0 = 0x0a }; irq = record { 0 = 2 }; master_in_service = true; slave_in_service = false }))
    ∷ []

abbrev master_lines : Machine → List ℕ
master_lines m = m.pic.master.request ∷ m.pic.master.in_service ∷ []

-- ---- the list

abbrev pub examples : List Example
examples =
    record {
      number = 1;
      calls = select 0x10 ∷ read ∷ select 0x40 ∷ read ∷ [];
      says = (0 ∷ []) ∷ (0 ∷ 65536 ∷ []) ∷ (0 ∷ []) ∷ (0 ∷ 0 ∷ []) ∷ [];
      look = nothing;
      seen = [];
    }
    ∷ record {
      number = 2;
      calls = select 0x14 ∷ write 0x8030 ∷ line 2 true ∷ read ∷ line 2 true ∷ eoi 0x30 ∷ line 2 false ∷ eoi 0x30 ∷ eoi 0x30 ∷ [];
      says = (0 ∷ []) ∷ (0 ∷ []) ∷ (0 ∷ 0x30 ∷ 1 ∷ []) ∷ (0 ∷ 0xC030 ∷ []) ∷ (0 ∷ []) ∷ (0 ∷ 2 ∷ 0x30 ∷ 1 ∷ []) ∷ (0 ∷ []) ∷ (0 ∷ 2 ∷ []) ∷ (0 ∷ []) ∷ [];
      look = nothing;
      seen = [];
    }
    ∷ record {
      number = 3;
      calls = select 0x14 ∷ write 0x8030 ∷ line 2 true ∷ write 0x8030 ∷ read ∷ write 0x18030 ∷ read ∷ eoi 0x30 ∷ [];
      says = (0 ∷ []) ∷ (0 ∷ []) ∷ (0 ∷ 0x30 ∷ 1 ∷ []) ∷ (0 ∷ []) ∷ (0 ∷ 0xC030 ∷ []) ∷ (0 ∷ []) ∷ (0 ∷ 0x18030 ∷ []) ∷ (0 ∷ []) ∷ [];
      look = nothing;
      seen = [];
    }
    ∷ record {
      number = 4;
      calls = select 0x16 ∷ write 0x8041 ∷ select 0x1a ∷ write 0x8041 ∷ line 3 true ∷ line 5 true ∷ eoi 0x41 ∷ eoi 0x41 ∷ eoi 0x41 ∷ [];
      says = (0 ∷ []) ∷ (0 ∷ []) ∷ (0 ∷ []) ∷ (0 ∷ []) ∷ (0 ∷ 0x41 ∷ 1 ∷ []) ∷ (0 ∷ 0x41 ∷ 1 ∷ []) ∷ (0 ∷ 3 ∷ 0x41 ∷ 1 ∷ []) ∷ (0 ∷ 3 ∷ 0x41 ∷ 1 ∷ []) ∷ (0 ∷ 3 ∷ 0x41 ∷ 1 ∷ []) ∷ [];
      look = nothing;
      seen = [];
    }
    ∷ record {
      number = 5;
      calls = select 0x10 ∷ write 15 ∷ assert 0 ∷ write 16 ∷ assert 0 ∷ [];
      says = (0 ∷ []) ∷ (0 ∷ []) ∷ (0 ∷ []) ∷ (0 ∷ []) ∷ (0 ∷ 16 ∷ 0 ∷ []) ∷ [];
      look = nothing;
      seen = [];
    }
    ∷ record {
      number = 6;
      calls = Io (io.HandleRead 0xfebfffff 2) ∷ Io (io.HandleRead 0xfebfffff 4) ∷ Io (io.HandleWrite 0xfebfffff 2 0) ∷ Io (io.HandleWrite 0xfebfffff 4 0) ∷ [];
      says = (1 ∷ []) ∷ (4 ∷ []) ∷ (1 ∷ []) ∷ (4 ∷ []) ∷ [];
      look = nothing;
      seen = [];
    }
    ∷ record {
      number = 7;
      calls = seventh;
      says =
          (0 ∷ []) ∷ (0 ∷ []) ∷ (0 ∷ 0x74 ∷ 12 ∷ 3 ∷ []) ∷ (0 ∷ []) ∷ (0 ∷ []) ∷ (0 ∷ []) ∷ (0 ∷ []) ∷ (0 ∷ 0x75 ∷ 13 ∷ 3 ∷ []) ∷ (0 ∷ []) ∷ (0 ∷ []) ∷ (0 ∷ []) ∷ (0 ∷ 0x40 ∷ []) ∷ [];
      look = nothing;
      seen = [];
    }
    ∷ record {
      number = 8;
      calls = eighth;
      says = (0 ∷ []) ∷ (0 ∷ []) ∷ (0 ∷ 0x0a ∷ 2 ∷ 1 ∷ []) ∷ (0 ∷ []) ∷ [];
      look = master_lines;
      seen = 4 ∷ 0 ∷ [];
    }
    ∷ record {
      number = 9;
      calls = outb 0x21 0x5a ∷ outb 0x20 0x11 ∷ outb 0x21 0x20 ∷ outb 0x21 4 ∷ outb 0x21 1 ∷ inb 0x21 ∷ [];
      says = (0 ∷ []) ∷ (0 ∷ []) ∷ (0 ∷ []) ∷ (0 ∷ []) ∷ (0 ∷ []) ∷ (0 ∷ 0x5a ∷ []) ∷ [];
      look = λ m. m.pic.master.vector_base ∷ m.pic.master.mask ∷ [];
      seen = 0x20 ∷ 0x5a ∷ [];
    }
    ∷ record {
      number = 10;
      calls = store 0x80 0x2f ∷ accept 0x31 ∷ load 0xa0 ∷ end ∷ store 0x80 0x35 ∷ accept 0x31 ∷ load 0xa0 ∷ end ∷ [];
      says = (0 ∷ []) ∷ (0 ∷ []) ∷ (0 ∷ 0x30 ∷ []) ∷ (0 ∷ 0x31 ∷ []) ∷ (0 ∷ []) ∷ (0 ∷ []) ∷ (0 ∷ 0x35 ∷ []) ∷ (0 ∷ 0x31 ∷ []) ∷ [];
      look = nothing;
      seen = [];
    }
    ∷ record {
      number = 11;
      calls = accept 0x1f ∷ end ∷ load 0x100 ∷ [];
      says = (0 ∷ []) ∷ (0 ∷ []) ∷ (0 ∷ 0x80000000 ∷ []) ∷ [];
      look = nothing;
      seen = [];
    }
    ∷ record {
      number = 12;
      calls = store 0x300 15 ∷ store 0x280 0 ∷ load 0x280 ∷ [];
      says = (0 ∷ []) ∷ (0 ∷ []) ∷ (0 ∷ 0x20 ∷ []) ∷ [];
      look = nothing;
      seen = [];
    }
    ∷ []

pub examples_hold : Holds (after_calls new_machine old_rules) 1 12 examples
unfolding ring.first_rank ring.first_by ring.above set.with set.without set.outside set.lowest set.highest set.last_set32 redirection.send_entry redirection.raise_entry redirection.lower_entry redirection.end_entry redirection.write_low redirection.write_high table.interrupt_for_entry table.set_level table.first_awaiting table.end_of_entry table.end_of table.vector_for window.read_fixed window.read_word window.read_selected window.write_word window.write_selected window.read_at window.write_at vioapic.assert_gsi vioapic.set_gsi_level vioapic.end_of_interrupt vioapic.vector_for_gsi vioapic.address_range vioapic.handle_read vioapic.handle_write ioapic.outcome ioapic.run chip.opened chip.commanded chip.fed chip.command_read chip.read_shown chip.pulsed chip.counts chip.pending_line chip.pending_irq chip.asks chip.driven chip.acknowledged chip.acknowledge chip.unacknowledged pair.new_state pair.settled pair.latched pair.master_claim pair.slave_claim pair.claim_pending pair.claim_irq pair.restored pair.port_read pair.port_left pair.written_at pair.port_written vectors.highest_from icr.dest_field_matched icr.dest_no_shorthand icr.calculate_dest icr.command icr.self_ipi register.priority priority.update_ppr priority.accept_interrupt priority.handle_eoi registers.handle_read registers.stored registers.write_stored vlapic.setup vlapic.write_icr vlapic.write_icr_low vlapic.write_self_ipi vlapic.handle_write new_machine machine.pic_outcome machine.local_outcome performed after_calls replies
examples_hold = ((refl, refl, refl), ((refl, refl, refl), ((refl, refl, refl), ((refl, refl, refl), ((refl, refl, refl), ((refl, refl, refl), ((refl, refl, refl), ((refl, refl, refl), ((refl, refl, refl), ((refl, refl, refl), ((refl, refl, refl), ((refl, refl, refl), refl))))))))))))

-- ---- T-01: lines 3 and 5 are held with one vector. In version 0x11 an EOI reaches line 3 alone, and a write at offset 0x40 is none; in version 0x20 both reach both lines
-- (40 is 8 + 32), each is sent again while it is up, and a line that was dropped is cleared and not sent

abbrev held : IoApicVersion → List Call
held version =
    IoVersion version ∷ select 1 ∷ read ∷ select 0x16 ∷ write 0x8041 ∷ select 0x1a ∷ write 0x8041 ∷ line 3 true ∷ line 5 true
    ∷ eoi 0x41 ∷ eoi_write 0x141 ∷ line 3 false ∷ eoi_write 0x41 ∷ eoi 0x41 ∷ line 5 false ∷ eoi 0x41 ∷ eoi 0x41 ∷ []

abbrev pub springs : List Example
springs =
    record {
      number = 1;
      calls = held V11;
      says =
          (0 ∷ []) ∷ (0 ∷ []) ∷ (0 ∷ 0x00170011 ∷ []) ∷ (0 ∷ []) ∷ (0 ∷ []) ∷ (0 ∷ []) ∷ (0 ∷ []) ∷ (0 ∷ 0x41 ∷ 1 ∷ []) ∷ (0 ∷ 0x41 ∷ 1 ∷ [])
          ∷ (0 ∷ 3 ∷ 0x41 ∷ 1 ∷ []) ∷ (0 ∷ []) ∷ (0 ∷ []) ∷ (0 ∷ []) ∷ (0 ∷ 3 ∷ []) ∷ (0 ∷ []) ∷ (0 ∷ 5 ∷ []) ∷ (0 ∷ []) ∷ [];
      look = nothing;
      seen = [];
    }
    ∷ record {
      number = 2;
      calls = held V20;
      says =
          (0 ∷ []) ∷ (0 ∷ []) ∷ (0 ∷ 0x00170020 ∷ []) ∷ (0 ∷ []) ∷ (0 ∷ []) ∷ (0 ∷ []) ∷ (0 ∷ []) ∷ (0 ∷ 0x41 ∷ 1 ∷ []) ∷ (0 ∷ 0x41 ∷ 1 ∷ [])
          ∷ (0 ∷ 40 ∷ 40 ∷ []) ∷ (0 ∷ 40 ∷ 40 ∷ []) ∷ (0 ∷ []) ∷ (0 ∷ 40 ∷ 32 ∷ []) ∷ (0 ∷ 32 ∷ 32 ∷ []) ∷ (0 ∷ []) ∷ (0 ∷ 32 ∷ 0 ∷ []) ∷ (0 ∷ []) ∷ [];
      look = nothing;
      seen = [];
    }
    ∷ []

pub springs_hold : Holds new_machine 1 2 springs
unfolding vioapic.created_version set.with set.without set.outside set.lowest set.highest set.last_set32 redirection.send_entry redirection.raise_entry redirection.lower_entry redirection.end_entry redirection.end_entry20 redirection.write_low redirection.store_low20 redirection.write_low20 redirection.write_high table.interrupt_for_entry table.set_level table.first_awaiting table.end_of_entry table.end_of_every table.end_of table.vector_for window.read_fixed window.read_word window.read_selected window.write_word window.write_selected window.read_at window.write_eoi window.write_at vioapic.assert_gsi vioapic.set_gsi_level vioapic.end_of_interrupt vioapic.vector_for_gsi vioapic.address_range vioapic.handle_read vioapic.handle_write ioapic.outcome ioapic.run new_machine machine.pic_outcome machine.local_outcome performed after_calls replies
springs_hold = ((refl, refl, refl), ((refl, refl, refl), refl))

-- ---- T-08: a guest masks line 3 while it is served, and unmasks it after the EOI; the line stays up. In version 0x11 the mask ends the flight, the EOI finds nothing and the
-- unmasking sends nothing; in version 0x20 Remote IRR stays, the EOI ends it, and the unmasking sends. There bit 12 isn't stored, and an edge word clears Remote IRR

abbrev masked : IoApicVersion → List Call
masked version =
    IoVersion version ∷ select 0x16 ∷ write 0x8041 ∷ line 3 true ∷ write 0x18041 ∷ read ∷ eoi 0x41 ∷ write 0x8041 ∷ write 0x9041 ∷ read ∷ write 0x41 ∷ read ∷ []

abbrev pub maskings : List Example
maskings =
    record {
      number = 1;
      calls = masked V11;
      says =
          (0 ∷ []) ∷ (0 ∷ []) ∷ (0 ∷ []) ∷ (0 ∷ 0x41 ∷ 1 ∷ []) ∷ (0 ∷ []) ∷ (0 ∷ 0x18041 ∷ []) ∷ (0 ∷ []) ∷ (0 ∷ []) ∷ (0 ∷ []) ∷ (0 ∷ 0x9041 ∷ [])
          ∷ (0 ∷ []) ∷ (0 ∷ 0x41 ∷ []) ∷ [];
      look = nothing;
      seen = [];
    }
    ∷ record {
      number = 2;
      calls = masked V20;
      says =
          (0 ∷ []) ∷ (0 ∷ []) ∷ (0 ∷ []) ∷ (0 ∷ 0x41 ∷ 1 ∷ []) ∷ (0 ∷ []) ∷ (0 ∷ 0x1C041 ∷ []) ∷ (0 ∷ 8 ∷ 0 ∷ []) ∷ (0 ∷ 0x41 ∷ 1 ∷ []) ∷ (0 ∷ []) ∷ (0 ∷ 0xC041 ∷ [])
          ∷ (0 ∷ []) ∷ (0 ∷ 0x41 ∷ []) ∷ [];
      look = nothing;
      seen = [];
    }
    ∷ []

pub maskings_hold : Holds new_machine 1 2 maskings
unfolding vioapic.created_version set.with set.without set.outside set.lowest set.highest set.last_set32 redirection.send_entry redirection.raise_entry redirection.lower_entry redirection.end_entry redirection.end_entry20 redirection.write_low redirection.store_low20 redirection.write_low20 redirection.write_high table.interrupt_for_entry table.set_level table.first_awaiting table.end_of_entry table.end_of_every table.end_of table.vector_for window.read_fixed window.read_word window.read_selected window.write_word window.write_selected window.read_at window.write_eoi window.write_at vioapic.assert_gsi vioapic.set_gsi_level vioapic.end_of_interrupt vioapic.vector_for_gsi vioapic.address_range vioapic.handle_read vioapic.handle_write ioapic.outcome ioapic.run new_machine machine.pic_outcome machine.local_outcome performed after_calls replies
maskings_hold = ((refl, refl, refl), ((refl, refl, refl), refl))

-- ---- T-02: examples 7 and 8 under the cascade rule, a new machine's. Line 14 is answered once line 13 is done, and its request is gone; line 2, raised or restored, is no request

abbrev pub cascades : List Example
cascades =
    record {
      number = 7;
      calls = seventh;
      says =
          (0 ∷ []) ∷ (0 ∷ []) ∷ (0 ∷ 0x74 ∷ 12 ∷ 3 ∷ []) ∷ (0 ∷ []) ∷ (0 ∷ []) ∷ (0 ∷ []) ∷ (0 ∷ []) ∷ (0 ∷ 0x75 ∷ 13 ∷ 3 ∷ []) ∷ (0 ∷ []) ∷ (0 ∷ [])
          ∷ (0 ∷ 0x76 ∷ 14 ∷ 3 ∷ []) ∷ (0 ∷ 0 ∷ []) ∷ [];
      look = nothing;
      seen = [];
    }
    ∷ record {
      number = 8;
      calls = eighth;
      says = (0 ∷ []) ∷ (0 ∷ []) ∷ (0 ∷ []) ∷ (0 ∷ []) ∷ [];
      look = master_lines;
      seen = 0 ∷ 0 ∷ [];
    }
    ∷ []

pub cascades_hold : Holds new_machine 7 8 cascades
unfolding ring.first_rank ring.first_by ring.above set.with set.without set.outside set.lowest set.highest set.last_set32 chip.opened chip.commanded chip.fed chip.command_read chip.read_shown chip.pulsed chip.counts chip.pending_line chip.pending_irq chip.asks chip.driven chip.acknowledged chip.acknowledge chip.unacknowledged pair.new_state pair.settled pair.latched pair.master_claim pair.slave_claim pair.claim_pending pair.claim_irq pair.restored pair.port_read pair.port_left pair.written_at pair.port_written new_machine machine.pic_outcome machine.local_outcome performed after_calls replies
cascades_hold = ((refl, refl, refl), ((refl, refl, refl), refl))

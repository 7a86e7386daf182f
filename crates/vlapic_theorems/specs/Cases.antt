-- Computed: whom the SDM's definition names, of local APICs that differ; what the definitions of a command's words, kinds and refusals say at their edges.
use Rattle.std.specs.Prelude.{ℕ, true, false, ◌≡◌, refl, List, [], ◌∷◌}
use Rattle.utils.specs.Set.{without}
use Rattle.types.specs.Reply.{flag}
use Rattle.vlapic.specs.declared.VirtualApicRegs.{VirtualApicRegs}
use Rattle.vlapic.specs.Regs.{start}
use Rattle.vlapic_theorems.specs.Targets.{Destination, Self, AllIncludingSelf, AllExcludingSelf, Broadcast, Physical, Logical, Receiver, destination_of, logical_id, is_target, is_reached}
use Rattle.vlapic_theorems.specs.Sending.{low_word, high_word, is_sent}
use Rattle.vlapic_theorems.specs.Numbers.{is_read, is_written, is_write2, is_write3, is_write5, is_setup5}

-- ---- the SDM's targets

-- flat with logical ids 1 and 2; cluster 2, member 1; a reserved model; x2APIC id 0x25, that is cluster 2, member 5
abbrev receivers : List Receiver
receivers =
    record { id = 0; x2apic = false; ldr = 0x01000000; dfr = 0xffffffff }
    ∷ record { id = 1; x2apic = false; ldr = 0x02000000; dfr = 0xffffffff }
    ∷ record { id = 2; x2apic = false; ldr = 0x21000000; dfr = 0x0fffffff }
    ∷ record { id = 3; x2apic = false; ldr = 0xff000000; dfr = 0x1fffffff }
    ∷ record { id = 0x25; x2apic = true; ldr = 0; dfr = 0 }
    ∷ []

-- whether each is a target of what vCPU 1 sends
abbrev targets : List Receiver → Destination → List ℕ
targets [] dest = []
targets (r ∷ rs) dest = flag (is_target 1 dest r) ∷ targets rs dest

pub physical_named : targets receivers (Physical 0x25) ≡ 0 ∷ 0 ∷ 0 ∷ 0 ∷ 1 ∷ []
physical_named = refl

pub flat_named : targets receivers (Logical 0x03) ≡ 1 ∷ 1 ∷ 0 ∷ 0 ∷ 0 ∷ []
flat_named = refl

pub cluster_named : targets receivers (Logical 0x21) ≡ 1 ∷ 0 ∷ 1 ∷ 0 ∷ 0 ∷ []
cluster_named = refl

-- in the cluster, but another member; the member's place, but another cluster
pub member_named : targets receivers (Logical 0x22) ≡ 0 ∷ 1 ∷ 0 ∷ 0 ∷ 0 ∷ []
member_named = refl

pub cluster_other : targets receivers (Logical 0x11) ≡ 1 ∷ 0 ∷ 0 ∷ 0 ∷ 0 ∷ []
cluster_other = refl

-- x2APIC: this member, another, another cluster
pub x2apic_id : logical_id 0x25 ≡ 0x20020
x2apic_id = refl

pub x2apic_named : targets receivers (Logical 0x00020020) ≡ 0 ∷ 0 ∷ 0 ∷ 0 ∷ 1 ∷ []
x2apic_named = refl

pub x2apic_member : targets receivers (Logical 0x00020010) ≡ 0 ∷ 0 ∷ 0 ∷ 0 ∷ 0 ∷ []
x2apic_member = refl

pub x2apic_cluster : targets receivers (Logical 0x00030020) ≡ 0 ∷ 0 ∷ 0 ∷ 0 ∷ 0 ∷ []
x2apic_cluster = refl

pub broadcast_named : targets receivers Broadcast ≡ 1 ∷ 1 ∷ 1 ∷ 1 ∷ 1 ∷ []
broadcast_named = refl

pub self_named : targets receivers Self ≡ 0 ∷ 1 ∷ 0 ∷ 0 ∷ 0 ∷ []
self_named = refl

pub all_named : targets receivers AllIncludingSelf ≡ 1 ∷ 1 ∷ 1 ∷ 1 ∷ 1 ∷ []
all_named = refl

pub others_named : targets receivers AllExcludingSelf ≡ 1 ∷ 0 ∷ 1 ∷ 1 ∷ 1 ∷ []
others_named = refl

-- the destination in the words: a shorthand first, then all ones by mode, then the destination mode
pub self_read : destination_of false 0x40041 0xff000000 ≡ Self
self_read = refl

pub broadcast_read : destination_of false 0x41 0xff000000 ≡ Broadcast
broadcast_read = refl

pub x2apic_read : destination_of true 0x41 0xff ≡ Physical 0xff
x2apic_read = refl

pub logical_read : destination_of false 0x841 0x03000000 ≡ Logical 3
logical_read = refl

-- ---- who is reached here

-- vCPU 0 of two, in each mode
abbrev xapic : VirtualApicRegs
xapic = start false 0

abbrev x2apic : VirtualApicRegs
x2apic = start true 0

pub x2apic_reached : is_reached x2apic 2 3 (Logical 0x00020020) 1 ≡ true
x2apic_reached = refl

pub inactive_physical : is_reached xapic 2 1 (Physical 1) 1 ≡ true
inactive_physical = refl

pub inactive_all : is_reached xapic 2 1 AllIncludingSelf 1 ≡ false
inactive_all = refl

pub inactive_broadcast : is_reached xapic 2 1 Broadcast 1 ≡ false
inactive_broadcast = refl

pub inactive_logical : is_reached x2apic 2 1 (Logical 0) 1 ≡ false
inactive_logical = refl

pub past_count : is_reached xapic 1 3 Broadcast 1 ≡ false
past_count = refl

-- ---- the words, and the kinds that are sent

pub status_cleared : low_word 0x1ffffffff ≡ 0xffffefff
unfolding without
status_cleared = refl

pub high_kept : high_word xapic 0x500000041 ≡ 0
high_kept = refl

pub high_taken : high_word x2apic 0x500000041 ≡ 5
high_taken = refl

pub fixed_15 : is_sent 15 ≡ false
fixed_15 = refl

pub fixed_16 : is_sent 16 ≡ true
fixed_16 = refl

pub lowest_unsent : is_sent 0x141 ≡ false
lowest_unsent = refl

pub smi_unsent : is_sent 0x200 ≡ false
smi_unsent = refl

pub reserved_unsent : is_sent 0x741 ≡ false
reserved_unsent = refl

pub nmi_to_one : is_sent 0x400 ≡ true
nmi_to_one = refl

pub startup_to_others : is_sent 0xc0600 ≡ true
startup_to_others = refl

pub nmi_to_self : is_sent 0x40400 ≡ false
nmi_to_self = refl

pub init_to_all : is_sent 0x80500 ≡ false
init_to_all = refl

-- ---- refusals

-- the count goes before the register, the register before the command
pub count_first : is_write2 xapic 0x40 4 65 ≡ false
count_first = refl

pub width_first : is_write3 xapic 0x300 0x300 8 2 3 ≡ false
unfolding without
width_first = refl

-- a reserved mode; not a vector below 16, though the destination is above 63, which is not looked at
pub mode_7 : is_write3 xapic 0x300 0x700 4 2 3 ≡ true
unfolding without
mode_7 = refl

pub vector_first : is_write5 x2apic 0x300 0x400000000f 8 2 ≡ false
unfolding without
vector_first = refl

pub above_63 : is_write5 x2apic 0x300 0x4000000010 8 2 ≡ true
unfolding without
above_63 = refl

pub below_64 : is_write5 x2apic 0x300 0x3f00000010 8 2 ≡ false
unfolding without
below_64 = refl

-- offsets
pub ppr_read : is_read 0xa0 ≡ true
ppr_read = refl

pub between_read : is_read 0x184 ≡ false
between_read = refl

pub ppr_written : is_written false 0xa0 4 ≡ false
ppr_written = refl

pub ldr_in_x2apic : is_written true 0xd0 4 ≡ false
ldr_in_x2apic = refl

pub self_ipi_in_xapic : is_written false 0x3f0 4 ≡ false
self_ipi_in_xapic = refl

pub icr_by_3 : is_written false 0x300 3 ≡ true
icr_by_3 = refl

-- 64 vCPUs and id 63 are the last
pub last_setup : is_setup5 64 63 ≡ false
last_setup = refl

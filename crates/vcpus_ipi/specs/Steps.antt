-- What the steps of a call do: two passes over the records look, a third one delivers. The first pass finds the sender's mode and ICR, from which the command follows; the
-- second finds whom that reaches.
use Rattle.std.specs.Prelude.{ℕ, suc, Bool, true, false, not, cond, ◌&&◌, ◌||◌, List, [], ◌∷◌, eqb, ltb, Option, Some, None, Result, Ok, Err}
use Rattle.utils.specs.Set.{with}
use Rattle.types.specs.declared.Refusal.{Refusal}
use Rattle.types.specs.declared.Refusal.TheVariants.{InvalidRegister, InvalidDelivery, OutOfRange}
use Rattle.types.specs.declared.Reply.{Reply}
use Rattle.types.specs.declared.Reply.TheVariants as reply
use Rattle.types.specs.Reply.{Outcome}
use Rattle.reply_code.specs.Lent.{reply_code}
use Rattle.vlapic_icr.specs.declared.IcrAnswer.{IcrAnswer}
use Rattle.vlapic_icr.specs.declared.IcrAnswer.TheVariants.{Nothing, SendIllegalVector}
use Rattle.vlapic_icr.specs.declared.DestMatch.{DestMatch}
use Rattle.vlapic_icr.specs.declared.DestMatch.TheVariants.{Matched, Unmatched, ReservedModel}
use Rattle.vlapic_icr.specs.Fields.{shorthand, is_reserved_mode, is_illegal_vector, is_invalid_shorthand}
use Rattle.vlapic_theorems.specs.Targets.{field}
use Rattle.vlapic_icr.specs.Icr.{send}
use Rattle.vlapic_theorems.specs.Numbers.{is_above63}
use Rattle.vcpus_ipi.specs.declared.Vcpu.{Vcpu}
use Rattle.vcpus_ipi.specs.declared.Command.{Command}
use Rattle.vcpus_ipi.specs.declared.Plan.{Plan}
use Rattle.vcpus_ipi.specs.declared.Effect.{Effect}
use Rattle.vcpus_ipi.specs.declared.Sent.{Sent}
use Rattle.vcpus_ipi.specs.Ipi.{ask_of, icr_of, is_icr, is_sending, command_for, destination, is_hit, is_unmatchable, is_logical_dest, stored, answering, is_outside, ipi_reply}

-- ---- looking

abbrev pub no_command : Command
no_command = record { x2apic = false; icr_lo = 0; icr_hi = 0 }

unfoldable pub begun : ℕ → ℕ → ℕ → ℕ → ℕ → ℕ → Plan
begun count sender offset value width active = record {
  count = count;
  ask = ask_of sender offset value width active;
  from = no_command;
  command = no_command;
  mask = 0;
  reserved = false;
}

-- a place joins a mask, which has 64
abbrev pub joined : ℕ → ℕ → ℕ
joined mask i = cond (ltb i 64) (with mask i) mask

-- one record is looked at: it may be the sender's, one that the command hits, one that no logical destination can be held against
unfoldable pub seen_by : Plan → Vcpu → ℕ → Plan
seen_by p r i = record {
  count = p.count;
  ask = p.ask;
  from = cond (eqb i p.ask.sender.0) (icr_of r) p.from;
  command = p.command;
  mask = cond (is_hit p.ask.sender.0 p.ask.active p.command i r) (joined p.mask i) p.mask;
  reserved = cond (is_unmatchable p.ask.active i r) true p.reserved;
}

-- every record, from place i on
abbrev pub seen_all : ℕ → Plan → List Vcpu → Plan
seen_all i p [] = p
seen_all i p (r ∷ rs) = seen_all (suc i) (seen_by p r i) rs

-- the command is what is asked of the sender; what the first pass found besides is forgotten
unfoldable pub asked : Plan → Plan
asked p = record { count = p.count; ask = p.ask; from = p.from; command = command_for p.ask p.from; mask = 0; reserved = false }

-- ---- deciding

-- a shorthand, or the broadcast destination
abbrev pub is_named : Command → Bool
is_named c = not (eqb (shorthand c.icr_lo) 0) || eqb (field c.x2apic c.icr_hi) (cond c.x2apic 0xffffffff 0xff)

abbrev pub is_matched : DestMatch → Bool
is_matched Matched = true
is_matched Unmatched = false
is_matched ReservedModel = false

abbrev pub decided_answer : Plan → Result IcrAnswer Refusal
decided_answer p =
    cond (is_reserved_mode p.command.icr_lo) (Err InvalidDelivery)
    (cond (is_illegal_vector p.command.icr_lo) (Ok SendIllegalVector)
    (cond (is_invalid_shorthand p.command.icr_lo) (Ok Nothing)
    (cond (is_above63 (destination p.command)) (Err OutOfRange)
    (cond (is_logical_dest (destination p.command) && p.reserved) (Err InvalidDelivery)
    (Ok (send p.command.icr_lo p.mask))))))

abbrev pub refusing : Plan → Refusal → Effect
refusing p why = record { sender = p.ask.sender; stores = None; answer = Err why }

unfoldable pub decided : Plan → Effect
decided p =
    cond (is_outside p.count p.ask) (refusing p OutOfRange)
    (cond (is_sending p.ask p.from.x2apic) (record { sender = p.ask.sender; stores = cond (is_icr p.ask) (Some p.command) None; answer = decided_answer p })
    (refusing p InvalidRegister))

-- ---- delivering

-- the words of a command go to the ICR, where there is one
abbrev pub taking : Option Command → Vcpu → Vcpu
taking (Some c) r = stored true c r
taking None r = r

unfoldable pub changed_by : Effect → Vcpu → ℕ → Vcpu
changed_by e r i = answering e.answer (eqb i e.sender.0) i (cond (eqb i e.sender.0) (taking e.stores r) r)

abbrev pub changed_all : Effect → ℕ → List Vcpu → List Vcpu
changed_all e i [] = []
changed_all e i (r ∷ rs) = changed_by e r i ∷ changed_all e (suc i) rs

-- ---- answering

-- a reply as a caller in C reads it: the code, in which an IPI has two values, kind and vector; and the mask of an IPI, else 0
abbrev pub sent_reply : Reply → Sent
sent_reply (reply.Refused why) = record { code = reply_code (reply.Refused why); mask = 0 }
sent_reply reply.Nothing = record { code = reply_code reply.Nothing; mask = 0 }
sent_reply (reply.One a) = record { code = reply_code (reply.One a); mask = 0 }
sent_reply (reply.Two a b) = record { code = reply_code (reply.Two a b); mask = 0 }
sent_reply (reply.Three kind vector mask) = record { code = reply_code (reply.Two kind vector); mask = mask }

unfoldable pub answered : Effect → Sent
answered e = sent_reply (ipi_reply e.answer)

-- the records after a call, and its answer. The promise of the call is an equation of these
pub record Left : Type 0 where
  pub records : List Vcpu
  pub sent : Sent

abbrev pub left : List Vcpu → Sent → Left
left xs s = record { records = xs; sent = s }

abbrev pub leaves : Outcome (List Vcpu) → Left
leaves o = left o.state (sent_reply o.reply)

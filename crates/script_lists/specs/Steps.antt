-- A step of a script over a host: a machine of scripts, and the waiting lists of its vCPUs; and what the program `lists` prints of it: the field's line, as the program `script` has
-- it, and behind it a line for each of four vCPUs, with the vectors that wait for it, the oldest first. At a bad field there is its line alone, and at the end nothing.
use Rattle.std.specs.Prelude.{ℕ, List, ◌++◌, Option, Some, None, Result, Ok, Err}
use Rattle.types.specs.Reply.{Outcome, outcome_of}
use Rattle.reply_text.specs.Text.{words_line}
use Rattle.script_format.specs.declared.BadField.{BadField as NoField}
use Rattle.script_format.specs.declared.Cursor.{Cursor}
use Rattle.script_format.specs.declared.Field.{Field}
use Rattle.script_machine.specs.declared.Machine as declared
use Rattle.script_machine.specs.declared.Stop.TheVariants.{BadField}
use Rattle.script_machine.specs.Machine.{Machine, with_pic}
use Rattle.script_machine.specs.Run.{Said, Step, did, stopped, step_of, step_in}
use Rattle.script_print.specs.Printed.{said_text}
use Rattle.waiting.specs.Lists as lists
use Rattle.waiting.specs.Lists.{Lists, lists_in, list_at}
use Rattle.waiting_claims.specs.Claims.{Host, host, claim_irq_for, claim_pending_for}
use Rattle.script_lists.specs.declared.ListCall.{ListCall}
use Rattle.script_lists.specs.declared.ListCall.TheVariants.{Take, Deliver, Cancel, ClaimIrq, ClaimPendingInterrupt, New}
use Rattle.script_lists.specs.Fields.{list_field_at}

-- ---- the calls

-- a call of the lists alone, on the host
abbrev pub on_lists : Host → Outcome Lists → Outcome Host
on_lists h o = outcome_of (host o.state h.pair) o.reply

unfoldable pub list_outcome : Host → ListCall → Outcome Host
list_outcome h (Take id v) = on_lists h (lists.take h.lists id v)
list_outcome h (Deliver id) = on_lists h (lists.deliver h.lists id)
list_outcome h (Cancel id v) = on_lists h (lists.cancel h.lists id v)
list_outcome h (ClaimIrq id l) = claim_irq_for h id l
list_outcome h (ClaimPendingInterrupt id) = claim_pending_for h id
list_outcome h (New id) = on_lists h (lists.new h.lists id)

-- ---- a step

-- the lists after it, and the machine, where the next field starts, and what is said
pub record HostStep : Type 0 where
  pub lists : Lists
  pub step : Step

-- a call of the lists leaves the lists, and in the machine the pair
abbrev pub step_with : Machine → ℕ → ℕ → Outcome Host → HostStep
step_with m tag next o = record {
  lists = o.state.lists;
  step = record { machine = with_pic m o.state.pair; next = record { at = next }; said = did tag o.reply };
}

-- a field of the lists is performed on the lists and the machine's pair; a bad one isn't, and the place stays; all else is the machine's
abbrev pub host_step_by : List ℕ → Lists → Machine → ℕ → Result (Option (Field ListCall)) NoField → HostStep
host_step_by s l m at (Ok (Some f)) = step_with m f.tag f.next.at (list_outcome (host l m.pic) f.call)
host_step_by s l m at (Err b) = record { lists = l; step = record { machine = m; next = record { at = at }; said = stopped BadField } }
host_step_by s l m at (Ok None) = record { lists = l; step = step_of s m at }

unfoldable pub host_step : List ℕ → Lists → Machine → ℕ → HostStep
host_step s l m at = host_step_by s l m at (list_field_at s at)

-- the step that bytes and a machine after it and its answer stand for
abbrev pub host_step_in : List ℕ → declared.Machine → Cursor × Said → HostStep
host_step_in l m r = record { lists = lists_in l; step = step_in m r }

-- ---- its text

abbrev pub list_text : Lists → ℕ → List ℕ
list_text l k = words_line (list_at l (record { 0 = k })).waiting

-- of vCPU 0 to 3
abbrev pub lists_text : Lists → List ℕ
lists_text l = list_text l 0 ++ (list_text l 1 ++ (list_text l 2 ++ list_text l 3))

-- a step at a place, which left these lists
abbrev pub lists_said : Said → ℕ → Lists → List ℕ
lists_said said place l = said_text said place (lists_text l)

-- The planner's answers as replies.
use Rattle.std.specs.Prelude.{Option, Result}
use Rattle.types.specs.declared.Refusal.{Refusal}
use Rattle.types.specs.declared.Reply.{Reply}
use Rattle.types.specs.declared.Reply.TheVariants.{Three}
use Rattle.types.specs.Reply.{done_reply, option_reply, result_reply}
use Rattle.planner.specs.declared.shortage.CrowdedRange.{CrowdedRange}

abbrev pub plan_reply : Result (Unit {0}) Refusal → Reply
plan_reply = result_reply done_reply

-- a range of vectors, and the set of the lines that are confined to it
abbrev pub shown_reply : CrowdedRange → Reply
shown_reply s = Three s.lowest.0 s.highest.0 s.lines

abbrev pub shortage_reply : Result (Option CrowdedRange) Refusal → Reply
shortage_reply = result_reply (option_reply shown_reply)

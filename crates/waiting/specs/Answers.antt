-- The lists' answers as replies, in the numbers and values of documents 01 and 02: done, a vector that waited or none, how many wait; each may be refused.
use Rattle.std.specs.Prelude.{ℕ, Option, Result}
use Rattle.types.specs.declared.Refusal.{Refusal}
use Rattle.types.specs.declared.Reply.{Reply}
use Rattle.types.specs.declared.Vector.{Vector}
use Rattle.types.specs.Reply.{done_reply, number_reply, vector_reply, option_reply, result_reply}

abbrev pub taken_reply : Result (Unit {0}) Refusal → Reply
taken_reply = result_reply done_reply

abbrev pub waited_reply : Result (Option Vector) Refusal → Reply
waited_reply = result_reply (option_reply vector_reply)

abbrev pub counted_reply : Result ℕ Refusal → Reply
counted_reply = result_reply number_reply

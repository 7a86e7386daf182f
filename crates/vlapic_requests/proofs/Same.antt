-- Nothing is lost in an acceptance's reply. Assumes nothing.
use Rattle.std.proofs.Common.{◌≡◌, Option}
use Rattle.types.specs.declared.Vector.{Vector}
use Rattle.types.proofs.Replies.{vector_same, vector_some, option_reply_same}
use Rattle.vlapic_requests.specs.Promise.{acceptance_reply}

pub acceptance_reply_same : (a b : Option Vector) → acceptance_reply a ≡ acceptance_reply b → a ≡ b
acceptance_reply_same = option_reply_same _ vector_same vector_some

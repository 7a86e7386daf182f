use Rattle.std.proofs.Common.{arith, refl, ◌∙◌}
use Rattle.reply_text.proofs.Pages.{no_bytes, more_bytes, all_bytes}
use Rattle.reply_text.proofs.Page.put_text.Goals as goal

pub loop-byte-init : goal.loop-byte-init
loop-byte-init c = (omega arith, omega arith, no_bytes c.args.text.now, refl)

pub loop-byte-preserved : goal.loop-byte-preserved
loop-byte-preserved c =
    let i = c.loop-byte.invariant in (
      omega arith,
      omega (arith, i.1, c.put.ensures.puts.puts.end),
      more_bytes _ _ c.loop-byte-test.true i.2 c.put.ensures.puts,
      c.put.ensures.same ∙ i.3,
    )

pub returns-clause-puts : goal.returns-clause-puts
returns-clause-puts c = all_bytes _ _ c.loop-byte-test.false c.loop-byte.invariant.2

use Rattle.std.proofs.Common.{arith, refl, ◌∙◌}
use Rattle.reply_text.proofs.Pages.{no_words, more_words, all_words}
use Rattle.reply_text.proofs.Page.put_words.Goals as goal

pub loop-word-init : goal.loop-word-init
loop-word-init c = (omega arith, omega arith, no_words c.args.words.now, refl)

pub loop-word-preserved : goal.loop-word-preserved
loop-word-preserved c =
    let i = c.loop-word.invariant in (
      omega arith,
      omega (arith, i.1, c.put_decimal.ensures.upper_bound, c.put.ensures.puts.puts.end),
      more_words _ _ c.loop-word-test.true i.2 c.put_decimal.ensures.puts c.put.ensures.puts,
      c.put.ensures.same ∙ c.put_decimal.ensures.same ∙ i.3,
    )

pub returns-clause-puts : goal.returns-clause-puts
returns-clause-puts c = all_words _ _ c.loop-word-test.false c.loop-word.invariant.2 c.put-2.ensures.puts

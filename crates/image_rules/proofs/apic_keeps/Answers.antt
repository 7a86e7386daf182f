use Rattle.std.proofs.Common.{sym, ◌∙◌}
use Rattle.image_rules.specs.Rules.{word_keeps, apic_keeps}
use Rattle.image_rules.proofs.Tests.{all_by}
use Rattle.image_rules.proofs.apic_keeps.Goals as goal

pub returns-then-words_keep : goal.returns-then-words_keep
unfolding apic_keeps
returns-then-words_keep c = rw (sym (all_by 42 (word_keeps c.args.words.now) _ c.words_keep.ensures) ∙ c.if-words_keep.true) c.ppr_keeps.ensures

pub returns-else-words_keep : goal.returns-else-words_keep
unfolding apic_keeps
returns-else-words_keep c = let e = sym (all_by 42 (word_keeps c.args.words.now) _ c.words_keep.ensures) ∙ c.if-words_keep.false in rw e c.if-words_keep.false

use Rattle.vioapic.proofs.Entries.{low20_flown, low20_rested, low20_sent, low20_stayed, low20_unsent, word_stored}
use Rattle.vioapic.proofs.write_low20.Goals as goal

pub returns-then-lay : goal.returns-then-lay
returns-then-lay c = search low20_stayed

pub returns-then-remote_irr : goal.returns-then-remote_irr
returns-then-remote_irr c = search low20_flown

pub returns-then-is_quiet : goal.returns-then-is_quiet
returns-then-is_quiet c = search low20_rested

pub is_owed-requires : goal.is_owed-requires
is_owed-requires c = word_stored _ _ _ _ _ c.args.place.in_table c.word_at-word.ensures _ c.remote_irr.ensures c.lay.ensures.0 _ c.forget-2.ensures _ c.if-remote_irr.false c.replace_resting-after.ensures

pub interrupt_for_entry-requires : goal.interrupt_for_entry-requires
interrupt_for_entry-requires c = word_stored _ _ _ _ _ c.args.place.in_table c.word_at-word.ensures _ c.remote_irr.ensures c.lay.ensures.0 _ c.forget-2.ensures _ c.if-remote_irr.false c.replace_resting-after.ensures

pub returns-then-is_owed : goal.returns-then-is_owed
returns-then-is_owed c = search low20_sent

pub returns : goal.returns
returns c = search low20_unsent

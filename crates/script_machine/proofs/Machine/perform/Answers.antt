use Rattle.script_machine.proofs.Chips.{remembers_call, perform_io, perform_version, perform_pic, perform_rule, perform_local, perform_board}
use Rattle.script_machine.proofs.Outcomes.{replied}
use Rattle.types.specs.declared.Reply.TheVariants as reply
use Rattle.script_machine.proofs.Machine.perform.Goals as goal

pub returns-in-Io : goal.returns-in-Io
returns-in-Io c = perform_io _ _ _ _ _ _ _ c.args.call _ (remembers_call c.args.self.now.vm c.args.call _ _ c.chip.ensures c.with-self.ensures) _ _ c.in-Io.is c.call_ioapic.ensures

pub returns-in-IoVersion : goal.returns-in-IoVersion
returns-in-IoVersion c = perform_version _ _ _ _ _ _ _ c.args.call _ (remembers_call c.args.self.now.vm c.args.call _ _ c.chip.ensures c.with-self.ensures) _ _ c.in-IoVersion.is (replied _ _ _ _ c.reply.ensures c.new_version.ensures.outcome)

pub returns-in-Pic : goal.returns-in-Pic
returns-in-Pic c = perform_pic _ _ _ _ _ _ _ c.args.call _ (remembers_call c.args.self.now.vm c.args.call _ _ c.chip.ensures c.with-self.ensures) _ _ c.in-Pic.is c.call_pic.ensures

pub returns-in-PicRule : goal.returns-in-PicRule
returns-in-PicRule c = perform_rule _ _ _ _ _ _ _ c.args.call reply.Nothing (remembers_call c.args.self.now.vm c.args.call _ _ c.chip.ensures c.with-self.ensures) _ _ c.in-PicRule.is c.new_rule.ensures

pub returns-in-Apic : goal.returns-in-Apic
returns-in-Apic c = perform_local _ _ _ _ _ _ _ c.args.call _ (remembers_call c.args.self.now.vm c.args.call _ _ c.chip.ensures c.with-self.ensures) _ _ _ c.in-Apic.is c.call_apic.ensures.used_value c.call_apic.ensures.reply_after

pub returns-in-Board : goal.returns-in-Board
returns-in-Board c = perform_board _ _ _ _ _ _ _ c.args.call _ (remembers_call c.args.self.now.vm c.args.call _ _ c.chip.ensures c.with-self.ensures) _ _ _ c.in-Board.is c.call_board.ensures

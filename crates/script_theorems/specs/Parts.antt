-- What a call of a script is to one of its chips: one of the chip's calls, a choice of what the chip is, or nothing.
use Rattle.vioapic.specs.Calls as ioapic
use Rattle.vioapic.specs.declared.IoApicVersion.{IoApicVersion}
use Rattle.vpic.specs.declared.PicRule.{PicRule as Rule}
use Rattle.script_format.specs.declared.PicCall.{PicCall}
use Rattle.script_format.specs.declared.Call.{Call}
use Rattle.script_format.specs.declared.Call.TheVariants.{Io, IoVersion, Pic, PicRule, Apic, Board}
use Rattle.script_machine.specs.Machine.{io_call}

pub data Part (A B : Type 0) : Type 0 where
  asked : A → Part A B
  made : B → Part A B
  elsewhere : Part A B

abbrev pub by_part : {A B C : Type 0} → Part A B → (A → C) → (B → C) → C → C
by_part (asked c) f g x = f c
by_part (made b) f g x = g b
by_part elsewhere f g x = x

abbrev pub io_part : Call → Part ioapic.Call IoApicVersion
io_part (Io c) = asked (io_call c)
io_part (IoVersion version) = made version
io_part (Pic c) = elsewhere
io_part (PicRule rule) = elsewhere
io_part (Apic c) = elsewhere
io_part (Board c) = elsewhere

abbrev pub pic_part : Call → Part PicCall Rule
pic_part (Io c) = elsewhere
pic_part (IoVersion version) = elsewhere
pic_part (Pic c) = asked c
pic_part (PicRule rule) = made rule
pic_part (Apic c) = elsewhere
pic_part (Board c) = elsewhere

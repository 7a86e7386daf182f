use Rattle.script_format.proofs.Rows.{decoded_io, decoded_pic, decoded_apic, decoded_board}
use Rattle.script_format.proofs.decode.Goals as goal

pub returns-then-tag-lt16 : goal.returns-then-tag-lt16
returns-then-tag-lt16 c = search decoded_io

pub returns-then-tag-lt32 : goal.returns-then-tag-lt32
returns-then-tag-lt32 c = search decoded_pic

pub returns-then-tag-lt48 : goal.returns-then-tag-lt48
returns-then-tag-lt48 c = search decoded_apic

pub returns : goal.returns
returns c = search decoded_board

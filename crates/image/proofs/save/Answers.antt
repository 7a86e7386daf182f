use Rattle.image.proofs.Saving.{saved_short, saved_whole}
use Rattle.image.proofs.save.Goals as goal

-- src/lib.rt:93:9
pub returns-then-buf-lt-IMAGE_SIZE : goal.returns-then-buf-lt-IMAGE_SIZE
returns-then-buf-lt-IMAGE_SIZE c = saved_short c.args.io.now c.args.apic.now c.args.pair.now c.args.buf.now c.if-buf-lt-IMAGE_SIZE.true

-- src/lib.rt:89:1
pub returns : goal.returns
returns c = saved_whole c.args.io.now c.args.apic.now c.args.pair.now c.args.buf.now _ _ c.if-buf-lt-IMAGE_SIZE.false c.gather-words.ensures c.write.ensures

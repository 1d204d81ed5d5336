use Rattle.std.proofs.Common.{rules}
use Rattle.scan_code.proofs.ImageNames.{range_written}
use Rattle.scan_code.proofs.image_writer.append_range.Goals as goal

pub returns : goal.returns
returns c =
    range_written c.args.var.now c.args.bytes.now.items c.push.new.self.items c.append_number.new.bytes.items c.append_number-2.new.bytes.items c.append_number-3.new.bytes.items
    (search rules) (search rules) (search rules) (search rules)

use Rattle.std.proofs.Common.{length, arith, ap}
use Rattle.scan_code.proofs.ImageNames.{name_is_short}
use Rattle.scan_code.proofs.image_writer.append_name.Goals as goal

pub overflow_cast-name : goal.overflow_cast-name
overflow_cast-name c =
    let short = name_is_short c.args.name.now c.as_bytes-name.ensures.named in
    let same = ap length c.as_bytes-name.ensures.bytes in
    omega (arith, short, same)

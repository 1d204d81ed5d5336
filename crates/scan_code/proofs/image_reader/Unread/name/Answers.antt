use Rattle.std.proofs.Common.{◌∙◌, sym}
use Rattle.scan_code.specs.Image.{names_of}
use Rattle.scan_code.proofs.ImageParts.{name_refused}
use Rattle.scan_code.proofs.image_reader.Unread.name.Goals as goal

pub returns-in-None : goal.returns-in-None
returns-in-None c =
    name_refused (names_of c.args.vars.now c.args.tags.now) c.in_ok-length.length c.args.self.now _ c.in_ok-piece.field-0.now _ c.in_ok-length.ensures c.in_ok-piece.ensures (sym c.in-None.is ∙ c.new_name.ensures)

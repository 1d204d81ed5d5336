-- The lines inside parentheses, in the form to recurse over.
pub use Rattle.il_reader.proofs.Forms.{deferred}

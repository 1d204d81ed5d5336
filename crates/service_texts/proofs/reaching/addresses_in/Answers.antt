use Rattle.std.proofs.Common.{inl}
use Rattle.service_texts.proofs.reaching.addresses_in.Goals as goal

pub returns-in-Err-clause-refused : goal.returns-in-Err-clause-refused
returns-in-Err-clause-refused c = λ other. inl (c.in-Err.ensures.refused other)

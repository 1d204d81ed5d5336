use Rattle.std.proofs.Common.{◌∙◌, rules}
use Rattle.il_assemble.specs.Kept.{seen}
use Rattle.il_assemble.proofs.Rules.{made}
use Rattle.il_assemble.proofs.assembler.image_of.Goals as goal

pub returns-clause-assembled : goal.returns-clause-assembled
returns-clause-assembled c =
    let m = made c.args.program.now (seen c.args.scope) c.requires.seen c.requires.counted c.requires.undivided c.in_ok-code.ensures.checked c.in_ok-code.ensures.short
    _ _ _ _ c.version.ensures (c.from_vec.ensures ∙ c.in_ok-vars.ensures) (c.from_vec-2.ensures ∙ c.in_ok-tags.ensures) (c.from_vec-3.ensures ∙ c.in_ok-code.ensures.coded) (search rules) in
    m.assembled

pub invariant_of-result : goal.invariant_of-result
invariant_of-result c =
    let m = made c.args.program.now (seen c.args.scope) c.requires.seen c.requires.counted c.requires.undivided c.in_ok-code.ensures.checked c.in_ok-code.ensures.short
    _ _ _ _ c.version.ensures (c.from_vec.ensures ∙ c.in_ok-vars.ensures) (c.from_vec-2.ensures ∙ c.in_ok-tags.ensures) (c.from_vec-3.ensures ∙ c.in_ok-code.ensures.coded) (search rules) in
    m.proper

use Rattle.std.proofs.Common.{sym, ◌∙◌, arith}
use Rattle.model_defs.specs.Descriptions.{descriptions_view}
use Rattle.model_defs.proofs.Whole.{registers_told, factors_told, header_told, room_for_header, both_hold}
use Rattle.model_defs.proofs.placing.lay_out.Goals as goal

pub overflow_sub-result : goal.overflow_sub-result
overflow_sub-result c =
    let ds = descriptions_view c.args.points.now.entries in
    let header = header_told ds c.in_ok-placed.placed c.in_ok-placed.ensures.told
    (both_hold (sym c.is_headed.ensures ∙ c.if-not-is_headed.false) (sym c.is_headed-else-not-is_headed.ensures ∙ c.if-not-is_headed-2.false)) in
    omega (arith, room_for_header c.in_ok-placed.placed header.0, registers_told ds c.in_ok-placed.placed c.in_ok-placed.ensures.told, c.in-Some.ensures.0)

pub invariant_of-result : goal.invariant_of-result
invariant_of-result c =
    let ds = descriptions_view c.args.points.now.entries in
    let header = header_told ds c.in_ok-placed.placed c.in_ok-placed.ensures.told
    (both_hold (sym c.is_headed.ensures ∙ c.if-not-is_headed.false) (sym c.is_headed-else-not-is_headed.ensures ∙ c.if-not-is_headed-2.false)) in
    record {
      is_model = c.requires;
      is_short = omega (arith, c.in-Some.ensures.1);
      is_whole = omega (arith, room_for_header c.in_ok-placed.placed header.0, registers_told ds c.in_ok-placed.placed c.in_ok-placed.ensures.told, c.in-Some.ensures.0);
      in_order = c.in_ok-placed.ensures.in_order;
      has_factors = factors_told ds c.in_ok-placed.placed c.in_ok-placed.ensures.told c.in_ok-placed.ensures.among;
      distinct = c.in_ok-placed.ensures.distinct;
      has_header = header;
    }

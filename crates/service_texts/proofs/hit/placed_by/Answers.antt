use Rattle.std.proofs.Common.{ap, length, sym}
use Rattle.service_texts.proofs.hit.placed_by.Goals as goal

pub returns : goal.returns
returns c =
    (_, c.in_ok-alone.alone, c.in_ok-asked.asked, c.in_ok-alone.ensures.sets, sym c.in_ok-asked.ensures, ap (λ words. record { first = c.in_ok-asked.asked.first; count = length words }) c.as_slice.ensures.value)

use Rattle.site_model.proofs.time_tag.time_over.Goals as goal

pub invariant_of-result-clause-numeric : goal.invariant_of-result-clause-numeric
invariant_of-result-clause-numeric c = λ e. cc

pub invariant_of-result-clause-meant : goal.invariant_of-result-clause-meant
invariant_of-result-clause-meant c = λ e. cc

-- A list of events, one after another.
use Rattle.std.proofs.Common.{◌≡◌, ℕ, ◌+◌, ◌<◌, ◌≤◌, List, [], ◌∷◌, ◌++◌, length, take, drop, get_or, refl, sym, ap, subst, ◌∙◌, arith, append_assoc}
use Rattle.std.specs.Prelude.{slice_set}
use Rattle.std.proofs.lemmas.List.{drop_more, drop_all, take_all, take_more_set, append-nil}
use Rattle.gateway.specs.declared.event_core.event.Event.{Event}
use Rattle.gateway.specs.declared.event_core.event.Answer.{Answer}
use Rattle.gateway.specs.event_core.Core.{Gateway, RunsFrom, numbers_of}
use Rattle.gateway.specs.event_core.SiteRun.{Standing, Steps}

module _ (old : Gateway) (events : List Event) (i : ℕ) (answers : List Answer) (s : Standing) (so_far : (rest : List Answer) (end : Standing) → RunsFrom old s (drop i events) rest end → RunsFrom old old.standing events (take i answers ++ rest) end) where
  pub runs_more : (e : Event) (a : Answer) (next : Standing) → i < length events → e ≡ get_or events i e → length answers ≡ length events
      → Steps old.site old.machine.accepted.image (numbers_of old.machine.accepted) old.machine.accepted.budget s e a next
      → (rest : List Answer) (end : Standing) → RunsFrom old next (drop (i + 1) events) rest end → RunsFrom old old.standing events (take (i + 1) (slice_set answers i a) ++ rest) end
  runs_more e a next inside is sized step rest end h =
      let behind : drop i events ≡ e ∷ drop (i + 1) events = drop_more events i e inside ∙ ap (λ x. x ∷ drop (i + 1) events) (sym is) in
      let all : RunsFrom old s (drop i events) (a ∷ rest) end = subst (λ (es : List Event). RunsFrom old s es (a ∷ rest) end) (sym behind) (a, rest, next, step, refl, h) in
      rw (take_more_set answers i a (omega (arith, inside, sized))) (rw (append_assoc (take i answers) (a ∷ []) rest) (so_far (a ∷ rest) end all))

  pub runs_whole : length events ≤ i → length answers ≡ length events → RunsFrom old old.standing events answers s
  runs_whole outside sized =
      let none : RunsFrom old s (drop i events) [] s = subst (λ (es : List Event). RunsFrom old s es [] s) (sym (drop_all i events outside)) (refl, refl) in
      subst (λ (given : List Answer). RunsFrom old old.standing events given s) (append-nil (take i answers) ∙ take_all i answers (omega (arith, outside, sized))) (so_far [] s none)

-- Which lines are kept when one more is told.
use Rattle.std.proofs.Common.{◌≡◌, ◌-◌, List, [], ◌∷◌, ◌++◌, length, map, drop, ap, sym, ◌∙◌, arith}
use Rattle.std.proofs.lemmas.List.{drop-append-le, drop-map, length_push, length-map, map-append}
use Rattle.history.specs.Events.{Line, line_of}
use Rattle.history.specs.declared.event.Event.{Event}
use Rattle.history.specs.Steps.{last}

place_of : (lines : List Line) (line : Line) → length (lines ++ line ∷ []) - 256 ≡ length lines - 255
place_of lines line = omega (arith, length_push lines line)

last_of : (lines : List Line) (line : Line) → last 256 (lines ++ line ∷ []) ≡ last 255 lines ++ line ∷ []
last_of lines line = rw (place_of lines line) (drop-append-le (length lines - 255) lines (line ∷ []) (omega arith))

pub line_more : (events next all : List Event) (lines : List Line) (event : Event)
    → next ≡ last 255 events → all ≡ next ++ event ∷ [] → map line_of events ≡ lines
    → map line_of all ≡ last 256 (lines ++ line_of event ∷ [])
line_more events next all lines event given more are =
    ap (map line_of) (more ∙ ap (λ xs. xs ++ event ∷ []) given)
    ∙ map-append line_of (last 255 events) (event ∷ [])
    ∙ ap (λ xs. xs ++ line_of event ∷ []) (sym (drop-map line_of (length events - 255) events)
    ∙ ap (λ n. drop (n - 255) (map line_of events)) (sym (length-map events line_of)) ∙ ap (last 255) are)
    ∙ sym (last_of lines (line_of event))

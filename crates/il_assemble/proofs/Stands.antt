-- The instructions that stand in a program are those of the list, and each has those before it in the list before it.
use Rattle.std.proofs.Common.{◌≡◌, ◌⊎◌, inl, inr, ⊎_elim, ℕ, ◌+◌, ◌<◌, ◌≤◌, List, [], ◌∷◌, ◌++◌, length, Option, Some, None, refl, sym, ap, ◌∙◌, subst, arith, append_assoc}
use Rattle.std.specs.List.{Contains}
use Rattle.std.proofs.lemmas.List.{append-nil, length_push}
use Rattle.std.proofs.lemmas.List.Elements.{Contains-append_cases, Contains-append_left, Contains-append_right}
use Rattle.std.proofs.lemmas.Grind.{flat_map-append}
use Rattle.point_types.specs.declared.il_type.IlType.{IlType}
use Rattle.point_types.specs.declared.il_type.IlType.TheVariants as il
use Rattle.point_types.specs.declared.operator.Operator.{Operator}
use Rattle.il_reader.specs.Written.{followed_by}
use Rattle.il_reader.specs.declared.tree.Statement.{Statement}
use Rattle.il_reader.specs.declared.tree.Action.{Action}
use Rattle.il_reader.specs.declared.tree.Action.TheVariants as action
use Rattle.il_reader.specs.declared.tree.Operand.{Operand}
use Rattle.il_assemble.specs.Instructions.{InBody, InParentheses, Standing, StandsIn, else_behind, in_body, in_parentheses, inner_type_behind, inside, inside_lines, of_line, of_lines, type_behind}
use Rattle.il_assemble.specs.Names.{Scope}
use Rattle.il_assemble.specs.Typing.{loaded_inner_type, loaded_type, type_after, type_after_line, type_inside, whole_type}
use Rattle.il_assemble.specs.Written.{Written, Load, Apply, Defer, Limit, Select, Invert, Absolute, Convert, Inner, Close, Then}
use Rattle.il_assemble.proofs.FirstUses.{at_head, head_or_tail, in_none, in_tail}
use Rattle.il_assemble.proofs.Listing.{Chain, listed, listed_action, listed_inner, listed_inside, listed_line, standing}

-- Lines one after the other.

follow_again : (front : Inner) (line : ℕ) (head : Written) (tail : Inner) → followed_by (followed_by front (Then line head Close)) tail ≡ followed_by front (Then line head tail)
follow_again Close line head tail = refl
follow_again (Then l h t) line head tail = ap (Then l h) (follow_again t line head tail)

else_again : (else_type : IlType) (front : Inner) (line : ℕ) (head : Written) → else_behind else_type (followed_by front (Then line head Close)) ≡ il.Dint
else_again else_type Close line head = refl
else_again else_type (Then l h t) line head = refl

else_dint : (front : Inner) → else_behind il.Dint front ≡ il.Dint
else_dint Close = refl
else_dint (Then l h t) = refl

lines_again : (front : Inner) (line : ℕ) (head : Written) → inside_lines (followed_by front (Then line head Close)) ≡ inside_lines front ++ (action.Compute head ∷ inside head)
lines_again Close line head = append-nil (action.Compute head ∷ inside head)
lines_again (Then l h t) line head =
    ap (λ z. (action.Compute h ∷ inside h) ++ z) (lines_again t line head) ∙ sym (append_assoc (action.Compute h ∷ inside h) (inside_lines t) (action.Compute head ∷ inside head))

module _ (g : Scope) where
  type_again : (running : Option IlType) (else_type : IlType) (front : Inner) (line : ℕ) (head : Written) (tail : Inner) → inner_type_behind g running else_type (followed_by front (Then line head Close)) tail ≡ type_after g (inner_type_behind g running else_type front (Then line head tail)) (loaded_inner_type g (else_behind else_type front) tail) head
  type_again running else_type Close line head tail = refl
  type_again running else_type (Then l h t) line head tail =
      let after = λ (rest : Inner). type_after g running (loaded_inner_type g else_type rest) h in
      ap (λ z. inner_type_behind g (after z) il.Dint (followed_by t (Then line head Close)) tail) (follow_again t line head tail)
      ∙ type_again (after (followed_by t (Then line head tail))) il.Dint t line head tail
      ∙ ap (λ z. type_after g (inner_type_behind g (after (followed_by t (Then line head tail))) il.Dint t (Then line head tail)) (loaded_inner_type g z tail) head) (else_dint t)

  type_more : (running : Option IlType) (front : List Statement) (s : Statement) (rest : List Statement) → type_behind g running (front ++ s ∷ []) rest ≡ type_after_line g (type_behind g running front (s ∷ rest)) rest s.action
  type_more running [] s rest = refl
  type_more running (x ∷ front) s rest =
      ap (λ z. type_behind g (type_after_line g running z x.action) (front ++ s ∷ []) rest) (append_assoc front (s ∷ []) rest) ∙ type_more (type_after_line g running (front ++ s ∷ rest) x.action) front s rest

lines_more : (front : List Statement) (s : Statement) → of_lines (front ++ s ∷ []) ≡ of_lines front ++ of_line s.action
lines_more front s = flat_map-append (λ (z : Statement). of_line z.action) front (s ∷ []) ∙ ap (λ z. of_lines front ++ z) (append-nil (of_line s.action))

-- What is listed stands in the program.

abbrev AllStand : Scope → List Standing → Type 0
AllStand g xs = (x : Standing) → Contains xs x → StandsIn g x

none_stands : (g : Scope) → AllStand g []
none_stands g x h = absurd (in_none x h)

head_stands : (g : Scope) (x : Standing) (xs : List Standing) → StandsIn g x → AllStand g xs → AllStand g (x ∷ xs)
head_stands g x xs s h y c = ⊎_elim (λ e. subst (StandsIn g) e s) (λ t. h y t) (head_or_tail x y xs c)

both_stand : (g : Scope) (xs ys : List Standing) → AllStand g xs → AllStand g ys → AllStand g (xs ++ ys)
both_stand g xs ys h k y c = ⊎_elim (λ t. h y t) (λ t. k y t) (Contains-append_cases xs ys y c)

module _ (g : Scope) where
  mutual
    inside_stands : (x : Standing) (w : Written) → StandsIn g x → x.action ≡ action.Compute w → AllStand g (listed_inside g x.place (x.before ++ x.action ∷ []) x.running w)
    inside_stands x (Load n y) st e = none_stands g
    inside_stands x (Apply o n y) st e = none_stands g
    inside_stands x (Defer o n first inner) st e =
        subst (λ z. AllStand g (listed_inner g x.place z (type_inside g x.running first) (whole_type x.running) inner)) (append-nil (x.before ++ x.action ∷ [])) (inner_stands x o n first Close inner st e)
    inside_stands x (Limit y z) st e = none_stands g
    inside_stands x (Select y z) st e = none_stands g
    inside_stands x Invert st e = none_stands g
    inside_stands x Absolute st e = none_stands g
    inside_stands x (Convert from to) st e = none_stands g

    inner_stands : (x : Standing) (o : Operator) (n : _) (first : Option Operand) (front inner : Inner) → StandsIn g x → x.action ≡ action.Compute (Defer o n first (followed_by front inner)) → AllStand g (listed_inner g x.place ((x.before ++ x.action ∷ []) ++ inside_lines front) (inner_type_behind g (type_inside g x.running first) (whole_type x.running) front inner) (else_behind (whole_type x.running) front) inner)
    inner_stands x o n first front Close st e = none_stands g
    inner_stands x o n first front (Then line head tail) st e =
        let here = in_parentheses g x first front line head tail in
        let stands = InParentheses x o n first front line head tail st e in
        let more = followed_by front (Then line head Close) in
        let start = type_inside g x.running first in
        let whole = whole_type x.running in
        let rest = inner_stands x o n first more tail st (e ∙ ap (λ z. action.Compute (Defer o n first z)) (sym (follow_again front line head tail))) in
        let one = subst (λ z. AllStand g (listed_inner g x.place ((x.before ++ x.action ∷ []) ++ z) (inner_type_behind g start whole more tail) (else_behind whole more) tail)) (lines_again front line head) rest in
        let two = subst (λ z. AllStand g (listed_inner g x.place ((x.before ++ x.action ∷ []) ++ (inside_lines front ++ (action.Compute head ∷ inside head))) z (else_behind whole more) tail)) (type_again g start whole front line head tail) one in
        let three = subst (λ z. AllStand g (listed_inner g x.place ((x.before ++ x.action ∷ []) ++ (inside_lines front ++ (action.Compute head ∷ inside head))) (type_after g here.running here.loaded head) z tail)) (else_again whole front line head) two in
        let four = subst (λ z. AllStand g (listed_inner g x.place z (type_after g here.running here.loaded head) il.Dint tail)) (sym (append_assoc (x.before ++ x.action ∷ []) (inside_lines front) (action.Compute head ∷ inside head))) three in
        both_stand g (here ∷ listed_inside g here.place (here.before ++ here.action ∷ []) here.running head) (listed_inner g x.place (here.before ++ (action.Compute head ∷ inside head)) (type_after g here.running here.loaded head) il.Dint tail)
        (head_stands g here (listed_inside g here.place (here.before ++ here.action ∷ []) here.running head) stands (inside_stands here head stands refl)) four

  action_stands : (x : Standing) (a : Action) → StandsIn g x → x.action ≡ a → AllStand g (listed_action g x.place (x.before ++ x.action ∷ []) x.running a)
  action_stands x (action.Compute w) st e = inside_stands x w st e
  action_stands x (action.Store n name) st e = none_stands g
  action_stands x (action.Set v name) st e = none_stands g
  action_stands x (action.Jump c label turns) st e = none_stands g
  action_stands x (action.Return c) st e = none_stands g

  line_stands : (front : List Statement) (s : Statement) (behind : List Statement) (a : Option Action) → g.statements ≡ front ++ s ∷ behind → s.action ≡ a → AllStand g (listed_line g (length front) (of_lines front) (type_behind g None front (s ∷ behind)) behind s.line a)
  line_stands front s behind None e f = none_stands g
  line_stands front s behind (Some a) e f =
      let here = in_body g front s behind a in
      let stands = InBody front s behind a e f in
      head_stands g here (listed_action g here.place (here.before ++ a ∷ []) here.running a) stands (action_stands here a stands refl)

  lines_stand : (front ss : List Statement) → g.statements ≡ front ++ ss → AllStand g (listed g (length front) (of_lines front) (type_behind g None front ss) ss)
  lines_stand front [] e = none_stands g
  lines_stand front (s ∷ ss) e =
      let running = type_behind g None front (s ∷ ss) in
      let rest = lines_stand (front ++ s ∷ []) ss (e ∙ sym (append_assoc front (s ∷ []) ss)) in
      let one = subst (λ z. AllStand g (listed g z (of_lines (front ++ s ∷ [])) (type_behind g None (front ++ s ∷ []) ss) ss)) (length_push front s) rest in
      let two = subst (λ z. AllStand g (listed g (length front + 1) z (type_behind g None (front ++ s ∷ []) ss) ss)) (lines_more front s) one in
      let three = subst (λ z. AllStand g (listed g (length front + 1) (of_lines front ++ of_line s.action) z ss)) (type_more g None front s ss) two in
      both_stand g (listed_line g (length front) (of_lines front) running ss s.line s.action) (listed g (length front + 1) (of_lines front ++ of_line s.action) (type_after_line g running ss s.action) ss) (line_stands front s ss s.action e refl) three

  pub listed_stands : AllStand g (listed g 0 [] None g.statements)
  listed_stands = lines_stand [] g.statements refl

-- What stands in the program is listed.

-- with an instruction a list has those inside its parentheses
abbrev Closed : Scope → List Standing → Type 0
Closed g xs = (x : Standing) → Contains xs x → (y : Standing) → Contains (listed_action g x.place (x.before ++ x.action ∷ []) x.running x.action) y → Contains xs y

none_closed : (g : Scope) → Closed g []
none_closed g x h y k = absurd (in_none x h)

both_closed : (g : Scope) (xs ys : List Standing) → Closed g xs → Closed g ys → Closed g (xs ++ ys)
both_closed g xs ys h k x c y d =
    ⊎_elim (λ t. Contains-append_left xs ys y (h x t y d)) (λ t. Contains-append_right xs ys y (k x t y d)) (Contains-append_cases xs ys x c)

whole_closed : (g : Scope) (x : Standing) → Closed g (listed_action g x.place (x.before ++ x.action ∷ []) x.running x.action) → Closed g (x ∷ listed_action g x.place (x.before ++ x.action ∷ []) x.running x.action)
whole_closed g x h z c y d =
    let own = listed_action g x.place (x.before ++ x.action ∷ []) x.running x.action in
    ⊎_elim (λ e. in_tail x y own (subst (λ v. Contains (listed_action g v.place (v.before ++ v.action ∷ []) v.running v.action) y) (sym e) d)) (λ t. in_tail x y own (h z t y d)) (head_or_tail x z own c)

module _ (g : Scope) where
  mutual
    inside_closed : (place : ℕ) (before : List Action) (running : Option IlType) (w : Written) → Closed g (listed_inside g place before running w)
    inside_closed place before running (Load n y) = none_closed g
    inside_closed place before running (Apply o n y) = none_closed g
    inside_closed place before running (Defer o n first inner) = inner_closed place before (type_inside g running first) (whole_type running) inner
    inside_closed place before running (Limit y z) = none_closed g
    inside_closed place before running (Select y z) = none_closed g
    inside_closed place before running Invert = none_closed g
    inside_closed place before running Absolute = none_closed g
    inside_closed place before running (Convert from to) = none_closed g

    inner_closed : (place : ℕ) (before : List Action) (running : Option IlType) (else_type : IlType) (inner : Inner) → Closed g (listed_inner g place before running else_type inner)
    inner_closed place before running else_type Close = none_closed g
    inner_closed place before running else_type (Then line head tail) =
        let loaded = loaded_inner_type g else_type tail in
        let own = listed_inside g place (before ++ action.Compute head ∷ []) running head in
        let later = before ++ (action.Compute head ∷ inside head) in
        let here = standing place before line running loaded (action.Compute head) in
        both_closed g (here ∷ own) (listed_inner g place later (type_after g running loaded head) il.Dint tail)
        (whole_closed g here (inside_closed place (before ++ action.Compute head ∷ []) running head))
        (inner_closed place later (type_after g running loaded head) il.Dint tail)

  action_closed : (place : ℕ) (before : List Action) (running : Option IlType) (a : Action) → Closed g (listed_action g place before running a)
  action_closed place before running (action.Compute w) = inside_closed place before running w
  action_closed place before running (action.Store n name) = none_closed g
  action_closed place before running (action.Set v name) = none_closed g
  action_closed place before running (action.Jump c label turns) = none_closed g
  action_closed place before running (action.Return c) = none_closed g

  line_closed : (place line : ℕ) (before : List Action) (running : Option IlType) (rest : List Statement) (a : Option Action) → Closed g (listed_line g place before running rest line a)
  line_closed place line before running rest None = none_closed g
  line_closed place line before running rest (Some a) = whole_closed g (standing place before line running (loaded_type g rest) a) (action_closed place (before ++ a ∷ []) running a)

  listed_closed : (place : ℕ) (before : List Action) (running : Option IlType) (ss : List Statement) → Closed g (listed g place before running ss)
  listed_closed place before running [] = none_closed g
  listed_closed place before running (s ∷ ss) =
      let after = type_after_line g running ss s.action in
      both_closed g (listed_line g place before running ss s.line s.action) (listed g (place + 1) (before ++ of_line s.action) after ss) (line_closed place s.line before running ss s.action) (listed_closed (place + 1) (before ++ of_line s.action) after ss)

  in_inner : (place : ℕ) (before : List Action) (running : Option IlType) (else_type : IlType) (front : Inner) (line : ℕ) (head : Written) (tail : Inner) → Contains (listed_inner g place before running else_type (followed_by front (Then line head tail))) (standing place (before ++ inside_lines front) line (inner_type_behind g running else_type front (Then line head tail)) (loaded_inner_type g (else_behind else_type front) tail) (action.Compute head))
  in_inner place before running else_type Close line head tail =
      let loaded = loaded_inner_type g else_type tail in
      let rest = listed_inside g place (before ++ action.Compute head ∷ []) running head ++ listed_inner g place (before ++ (action.Compute head ∷ inside head)) (type_after g running loaded head) il.Dint tail in
      subst (λ z. Contains (standing place before line running loaded (action.Compute head) ∷ rest) (standing place z line running loaded (action.Compute head))) (sym (append-nil before)) (at_head (standing place before line running loaded (action.Compute head)) rest)
  in_inner place before running else_type (Then l h t) line head tail =
      let rest = followed_by t (Then line head tail) in
      let loaded = loaded_inner_type g else_type rest in
      let after = type_after g running loaded h in
      let later = before ++ (action.Compute h ∷ inside h) in
      let first = standing place before l running loaded (action.Compute h) ∷ listed_inside g place (before ++ action.Compute h ∷ []) running h in
      let type = inner_type_behind g after il.Dint t (Then line head tail) in
      let one = in_inner place later after il.Dint t line head tail in
      let two = subst (λ z. Contains (listed_inner g place later after il.Dint rest) (standing place (later ++ inside_lines t) line type (loaded_inner_type g z tail) (action.Compute head))) (else_dint t) one in
      let three = subst (λ z. Contains (listed_inner g place later after il.Dint rest) (standing place z line type (loaded_inner_type g il.Dint tail) (action.Compute head))) (append_assoc before (action.Compute h ∷ inside h) (inside_lines t)) two in
      Contains-append_right first (listed_inner g place later after il.Dint rest) (standing place (before ++ ((action.Compute h ∷ inside h) ++ inside_lines t)) line type (loaded_inner_type g il.Dint tail) (action.Compute head)) three

  in_lines : (front : List Statement) (place : ℕ) (before : List Action) (running : Option IlType) (s : Statement) (behind : List Statement) (a : Action) (at : ℕ) (earlier : List Action) → s.action ≡ Some a → at ≡ place + length front → earlier ≡ before ++ of_lines front → Contains (listed g place before running (front ++ s ∷ behind)) (standing at earlier s.line (type_behind g running front (s ∷ behind)) (loaded_type g behind) a)
  in_lines [] place before running s behind a at earlier e f h =
      let here : at ≡ place = f ∙ omega arith in
      let same : earlier ≡ before = h ∙ append-nil before in
      let own = λ (x : Option Action). listed_line g place before running behind s.line x in
      let rest = listed g (place + 1) (before ++ of_line s.action) (type_after_line g running behind s.action) behind in
      let one = at_head (standing place before s.line running (loaded_type g behind) a) (listed_action g place (before ++ a ∷ []) running a) in
      let two = subst (λ z. Contains (own (Some a)) (standing z before s.line running (loaded_type g behind) a)) (sym here) one in
      let three = subst (λ z. Contains (own (Some a)) (standing at z s.line running (loaded_type g behind) a)) (sym same) two in
      let four = subst (λ z. Contains (own z) (standing at earlier s.line running (loaded_type g behind) a)) (sym e) three in
      Contains-append_left (own s.action) rest (standing at earlier s.line running (loaded_type g behind) a) four
  in_lines (x ∷ front) place before running s behind a at earlier e f h =
      let after = type_after_line g running (front ++ s ∷ behind) x.action in
      let place_there : at ≡ (place + 1) + length front = omega (arith, f) in
      Contains-append_right (listed_line g place before running (front ++ s ∷ behind) x.line x.action) (listed g (place + 1) (before ++ of_line x.action) after (front ++ s ∷ behind)) (standing at earlier s.line (type_behind g after front (s ∷ behind)) (loaded_type g behind) a)
      (in_lines front (place + 1) (before ++ of_line x.action) after s behind a at earlier e place_there (h ∙ sym (append_assoc before (of_line x.action) (of_lines front))))

  inside_listed : (xs : List Standing) (x : Standing) (o : Operator) (n : _) (first : Option Operand) (inner : Inner) → Closed g xs → Contains xs x → x.action ≡ action.Compute (Defer o n first inner) → (y : Standing) → Contains (listed_inner g x.place (x.before ++ x.action ∷ []) (type_inside g x.running first) (whole_type x.running) inner) y → Contains xs y
  inside_listed xs x o n first inner closed c e y h = closed x c y (subst (λ z. Contains (listed_action g x.place (x.before ++ x.action ∷ []) x.running z) y) (sym e) h)

  pub stands_listed : (x : Standing) → StandsIn g x → Contains (listed g 0 [] None g.statements) x
  stands_listed _ (InBody front s behind a e f) =
      subst (λ z. Contains (listed g 0 [] None z) (in_body g front s behind a)) (sym e) (in_lines front 0 [] None s behind a (length front) (of_lines front) f (omega arith) refl)
  stands_listed _ (InParentheses x o n first front line head tail st e) =
      inside_listed (listed g 0 [] None g.statements) x o n first (followed_by front (Then line head tail)) (listed_closed 0 [] None g.statements) (stands_listed x st) e (in_parentheses g x first front line head tail)
      (in_inner x.place (x.before ++ x.action ∷ []) (type_inside g x.running first) (whole_type x.running) front line head tail)

-- Places in the list.

pub split_at : (xs : List Standing) (x : Standing) → Contains xs x → (front behind : List Standing) × (xs ≡ front ++ x ∷ behind)
split_at [] x h = absurd (in_none x h)
split_at (y ∷ xs) x h = go (split_at xs x) (head_or_tail y x xs h)
  where
    go : (Contains xs x → (front behind : List Standing) × (xs ≡ front ++ x ∷ behind)) → (y ≡ x) ⊎ Contains xs x → (front behind : List Standing) × (y ∷ xs ≡ front ++ x ∷ behind)
    go on (inl e) = ([], xs, ap (λ z. z ∷ xs) e)
    go on (inr t) = let rest = on t in (y ∷ rest.0, rest.1, ap (λ z. y ∷ z) rest.2)

chain_floor : (before : List Action) (xs : List Standing) (x : Standing) → Chain before xs → Contains xs x → length before ≤ length x.before
chain_floor before [] x h c = absurd (in_none x c)
chain_floor before (y ∷ xs) x h c =
    ⊎_elim (λ e. let same : length x.before ≡ length before = ap (λ (z : Standing). length z.before) (sym e) ∙ ap length h.0 in omega arith)
    (λ t. let more = chain_floor (before ++ y.action ∷ []) xs x h.1 t in let long = length_push before y.action in omega (arith, more, long))
    (head_or_tail y x xs c)

chain_tail : (before : List Action) (front behind : List Standing) (x : Standing) → Chain before (front ++ x ∷ behind) → Chain (x.before ++ x.action ∷ []) behind
chain_tail before [] behind x h = subst (λ z. Chain (z ++ x.action ∷ []) behind) (sym h.0) h.1
chain_tail before (y ∷ front) behind x h = chain_tail (before ++ y.action ∷ []) front behind x h.1

-- what is in front has fewer before it
pub front_is_earlier : (before : List Action) (front behind : List Standing) (x y : Standing) → Chain before (front ++ x ∷ behind) → Contains front y → length y.before < length x.before
front_is_earlier before [] behind x y h c = absurd (in_none y c)
front_is_earlier before (z ∷ front) behind x y h c =
    ⊎_elim
    (λ e. let same : length y.before ≡ length before = ap (λ (z : Standing). length z.before) (sym e) ∙ ap length h.0 in
    let floor = chain_floor (before ++ z.action ∷ []) (front ++ x ∷ behind) x h.1 (Contains-append_right front (x ∷ behind) x (at_head x behind)) in
    let long = length_push before z.action in
    omega (arith, floor, long, same))
    (λ t. front_is_earlier (before ++ z.action ∷ []) front behind x y h.1 t)
    (head_or_tail z y front c)

-- what has fewer before it is in front
pub earlier_is_front : (before : List Action) (front behind : List Standing) (x y : Standing) → Chain before (front ++ x ∷ behind) → Contains (front ++ x ∷ behind) y → length y.before < length x.before → Contains front y
earlier_is_front before front behind x y h c l =
    ⊎_elim (λ t. t)
    (λ t. ⊎_elim
    (λ e. let same : length x.before ≡ length y.before = ap (λ (z : Standing). length z.before) e in absurd (omega arith))
    (λ b. let floor = chain_floor (x.before ++ x.action ∷ []) behind y (chain_tail before front behind x h) b in
    let long = length_push x.before x.action in
    absurd (omega (arith, floor, long, l)))
    (head_or_tail x y behind t))
    (Contains-append_cases front (x ∷ behind) y c)

-- Points side by side, and one more after them.
use Rattle.std.proofs.Common.{◌≡◌, ℕ, List, [], ◌∷◌, ◌++◌, map, refl, ap, ◌∙◌}
use Rattle.served_rows.specs.declared.row.MapRow.{MapRow}
use Rattle.served_rows.specs.Rows.{address_of, addresses_from, after_point, after_points, point_of}

same_first : {a b : ℕ} {xs ys : List ℕ} → a ∷ xs ≡ b ∷ ys → a ≡ b
same_first e = cc

same_rest : {a b : ℕ} {xs ys : List ℕ} → a ∷ xs ≡ b ∷ ys → xs ≡ ys
same_rest e = cc

ends : (first : ℕ) (rows : List MapRow) (row : MapRow) → after_points first (map point_of (rows ++ row ∷ [])) ≡ after_point (after_points first (map point_of rows)) row.point
ends first [] row = refl
ends first (r ∷ rows) row = ends (after_point first r.point) rows row

places : (first : ℕ) (rows : List MapRow) (row : MapRow) → map address_of rows ≡ addresses_from first (map point_of rows) → row.address ≡ after_points first (map point_of rows)
    → map address_of (rows ++ row ∷ []) ≡ addresses_from first (map point_of (rows ++ row ∷ []))
places first [] row placed at = ap (λ a. a ∷ []) at
places first (r ∷ rows) row placed at =
    ap (λ a. a ∷ map address_of (rows ++ row ∷ [])) (same_first placed) ∙ ap (λ rest. first ∷ rest) (places (after_point first r.point) rows row (same_rest placed) at)

module _ (first : ℕ) (rows more : List MapRow) (row : MapRow) (is : more ≡ rows ++ row ∷ []) where
  pub ends_after : after_points first (map point_of more) ≡ after_point (after_points first (map point_of rows)) row.point
  ends_after = rw is (ends first rows row)

  pub one_more : map address_of rows ≡ addresses_from first (map point_of rows) → row.address ≡ after_points first (map point_of rows) → map address_of more ≡ addresses_from first (map point_of more)
  one_more placed at = rw is (places first rows row placed at)

-- An image and the tags of a site make a context that the proofs know.
use Rattle.std.proofs.Common.{◌≡◌, ℕ, zero, suc, ◌+◌, ◌<◌, List, [], ◌∷◌, length, map, drop, Result, Ok, Err, Option, Some, None, option_map, option_and_then, slice_get, Bool, true, false, not, ◌&&◌, IsTrue, ℤ, ◌≤ℤ◌, int_le, nat_eq, nat_le, nat_lt, refl, sym, ap, subst, ◌∙◌, arith, if◌then◌else◌}
use Rattle.point_types.specs.declared.il_type.IlType.{IlType}
use Rattle.point_types.specs.Value.{low_of, high_of, is_within, is_ranged, code_of, ◌>>=◌}
use Rattle.scan_code.specs.Image.{Image, IsProper}
use Rattle.scan_code.specs.declared.image.Tag.{Tag}
use Rattle.scan_code.specs.declared.op.Op.{Op}
use Rattle.scan_code.specs.declared.op.Op.TheVariants as does
use Rattle.scan_code.specs.Instruction.{Form, Bare, WithPlace, WithTruth, WithNumber, WithTypes, WithCount, forms, completed, decoded, decoded_at, typed_number, whole_type, signed_from, sized, number_from, truth_of, two_types}
use Rattle.site_model.specs.declared.tag.SiteTag.{SiteTag}
use Rattle.facts.specs.declared.refusal.RefusalKind.{RefusalKind}
use Rattle.facts.specs.declared.refusal.RefusalKind.TheVariants.{TagType, TagAccess}
use Rattle.facts.specs.Span.{Between}
use Rattle.facts.specs.Fact.{same_bool}
use Rattle.facts.specs.Fit.{IsIn}
use Rattle.facts.specs.Flow.{Context, TagRange}
use Rattle.facts.specs.declared.refusal.Refusal.{Refusal}
use Rattle.verifier.specs.declared.tag_link.TagLink.{TagLink}
use Rattle.verifier.specs.Links.{is_stored, allowed, found, number_of, there, link_of, refused_at, links_from}
use Rattle.verifier.specs.Listing.{Entry, is_tag, is_placed, jumps_after, is_end, listed_with, listed_from, listing_of, wrong_at}
use Rattle.verifier.specs.Verdict.{range_of, frame_of}
use Rattle.facts.proofs.Comparing.{and_left, and_right, true_le}
use Rattle.scan_code.proofs.ImageParts.{bool_is_whole}
use Rattle.verifier.proofs.Made.{IsMadeFrom, IsPlaced, IsTag, IsWhole, SameTag}
use Rattle.verifier.proofs.Listings.{head_is, whole_stands}
use Rattle.facts.proofs.Covering.{same_code}
use Rattle.point_types.proofs.Truths.{nat_same as nat_is}
use Rattle.facts.proofs.Covering.{same_bool_out as same_bool_is}

-- no number is decoded that is not one of its type
abbrev pub IsNumber : Op → Type 0
IsNumber (does.LoadNumber k n) = IsIn (Between (low_of k) (high_of k)) n
IsNumber other = Unit {0}

abbrev IsForm : Form → Type 0
IsForm (Bare made) = IsNumber made
IsForm (WithPlace made) = (p : ℕ) → IsNumber (made p)
IsForm (WithTruth made) = (b : Bool) → IsNumber (made b)
IsForm (WithNumber made) = (k : IlType) (n : ℤ) → IsIn (Between (low_of k) (high_of k)) n → IsNumber (made k n)
IsForm (WithTypes made) = (a b : IlType) → IsNumber (made a b)
IsForm (WithCount made) = (k n p : ℕ) → IsNumber (made k n p)

abbrev AreForms : List Form → Type 0
AreForms [] = Unit {0}
AreForms (f ∷ fs) = IsForm f × AreForms fs

all_forms : AreForms forms
all_forms = (tt, (λ p. tt, (λ p. tt, (λ p. tt, (λ b. tt, (λ k n h. h, (λ p. tt, (λ p. tt, (λ p. tt, (λ p. tt, (λ p. tt, (λ p. tt, (tt, (tt, (tt, (tt, (tt, (tt, (tt, (tt, (tt, (tt, (tt, (tt, (tt, (tt, (tt, (tt, (tt, (tt, (tt, (tt, (λ a b. tt, (λ p. tt, (λ p. tt, (λ p. tt, (tt, (tt, (λ k n p. tt, (λ k n p. tt, (λ k n p. tt, tt)))))))))))))))))))))))))))))))))))))))))

form_at : (fs : List Form) (n : ℕ) (f : Form) → AreForms fs → slice_get fs n ≡ Some f → IsForm f
form_at [] n f h e = absurd (cc)
form_at (g ∷ fs) zero f h e = subst IsForm (head_is g f e) h.0
form_at (g ∷ fs) (suc n) f h e = form_at fs n f h.1 e

sized_number : (size : ℕ) (o : Option Op) (i : Op) (n : ℕ) → ((j : Op) → o ≡ Some j → IsNumber j) → sized size o ≡ Some (i, n) → IsNumber i
sized_number size None i n h e = absurd (cc)
sized_number size (Some j) i n h e = subst IsNumber (ap (λ (p : Op × ℕ). p.0) (head_is (j, size) (i, n) e)) (h j refl)

made_number : (i j : Op) (m n : ℕ) → IsNumber j → ◌≡◌ {A = Option (Op × ℕ)} (Some (j, m)) (Some (i, n)) → IsNumber i
made_number i j m n h e = subst IsNumber (ap (λ (p : Op × ℕ). p.0) (head_is (j, m) (i, n) e)) h

mapped_number : (made : Bool → Op) (o : Option Bool) (j : Op) → ((b : Bool) → IsNumber (made b)) → option_map made o ≡ Some j → IsNumber j
mapped_number made None j h e = absurd (cc)
mapped_number made (Some b) j h e = subst IsNumber (head_is (made b) j e) (h b)

types_number : (made : IlType → IlType → Op) (o p : Option IlType) (j : Op) → ((a b : IlType) → IsNumber (made a b)) → two_types made o p ≡ Some j → IsNumber j
types_number made None p j h e = absurd (cc)
types_number made (Some a) None j h e = absurd (cc)
types_number made (Some a) (Some b) j h e = go (nat_eq (code_of a) (code_of b)) e
  where
    go : (t : Bool) → (if t then None else Some (made a b)) ≡ Some j → IsNumber j
    go true e = absurd (cc)
    go false e = subst IsNumber (head_is (made a b) j e) (h a b)

typed_is_number : (made : IlType → ℤ → Op) (o : Option IlType) (n : ℤ) (j : Op) → ((k : IlType) (n : ℤ) → IsIn (Between (low_of k) (high_of k)) n → IsNumber (made k n)) → typed_number made o n ≡ Some j → IsNumber j
typed_is_number made None n j h e = absurd (cc)
typed_is_number made (Some k) n j h e = go (is_within (low_of k) (high_of k) n) refl e
  where
    go : (t : Bool) → is_within (low_of k) (high_of k) n ≡ t → (if t then Some (made k n) else None) ≡ Some j → IsNumber j
    go true p e = subst IsNumber (head_is (made k n) j e) (h k n (true_le (low_of k) n (and_left (int_le (low_of k) n) _ p), true_le n (high_of k) (and_right (int_le (low_of k) n) _ p)))
    go false p e = absurd (cc)

completed_number : (f : Form) (rest : List ℕ) (i : Op) (n : ℕ) → IsForm f → completed f rest ≡ Some (i, n) → IsNumber i
completed_number (Bare made) rest i n h e = made_number i made 0 n h e
completed_number (WithPlace made) (a ∷ b ∷ rest) i n h e = made_number i (made (number_from 0 (a ∷ b ∷ []))) 2 n (h (number_from 0 (a ∷ b ∷ []))) e
completed_number (WithPlace made) rest i n h e = absurd (cc)
completed_number (WithTruth made) (a ∷ rest) i n h e = sized_number 1 (option_map made (truth_of a)) i n (λ j p. mapped_number made (truth_of a) j h p) e
completed_number (WithTruth made) [] i n h e = absurd (cc)
completed_number (WithNumber made) (k ∷ a ∷ b ∷ c ∷ d ∷ l ∷ f ∷ g ∷ m ∷ rest) i n h e =
    sized_number 9 (typed_number made (whole_type k) (signed_from (a ∷ b ∷ c ∷ d ∷ l ∷ f ∷ g ∷ m ∷ []))) i n (λ j p. typed_is_number made (whole_type k) (signed_from (a ∷ b ∷ c ∷ d ∷ l ∷ f ∷ g ∷ m ∷ [])) j h p) e
completed_number (WithNumber made) rest i n h e = absurd (cc)
completed_number (WithTypes made) (a ∷ b ∷ rest) i n h e = sized_number 2 (two_types made (whole_type a) (whole_type b)) i n (λ j p. types_number made (whole_type a) (whole_type b) j h p) e
completed_number (WithTypes made) rest i n h e = absurd (cc)
completed_number (WithCount made) (k ∷ m ∷ a ∷ b ∷ rest) i n h e = go (nat_eq m 0) e
  where
    go : (t : Bool) → ◌≡◌ {A = Option (Op × ℕ)} (if t then None else Some (made k m (number_from 0 (a ∷ b ∷ [])), 4)) (Some (i, n)) → IsNumber i
    go true e = absurd (cc)
    go false e = made_number i (made k m (number_from 0 (a ∷ b ∷ []))) 4 n (h k m (number_from 0 (a ∷ b ∷ []))) e
completed_number (WithCount made) rest i n h e = absurd (cc)

pub decoded_number : (code : List ℕ) (at next : ℕ) (i : Op) → decoded_at code at ≡ Some (i, next) → IsNumber i
decoded_number code at next i e = go (decoded (drop at code)) refl e
  where
    of_code : (bytes : List ℕ) (found : Op × ℕ) → decoded bytes ≡ Some found → IsNumber found.0
    of_code [] found e = absurd (cc)
    of_code (b ∷ rest) found e = formed (slice_get forms b) refl e
      where
        formed : (o : Option Form) → slice_get forms b ≡ o → option_and_then (λ form. completed form rest) o ≡ Some found → IsNumber found.0
        formed None p e = absurd (cc)
        formed (Some f) p e = completed_number f rest found.0 found.1 (form_at forms b f all_forms p) e

    go : (o : Option (Op × ℕ)) → decoded (drop at code) ≡ o → option_map {U = Op × ℕ} (λ found. (found.0, at + 1 + found.1)) o ≡ Some (i, next) → IsNumber i
    go None p e = absurd (cc)
    go (Some found) p e = subst IsNumber (ap (λ (q : Op × ℕ). q.0) (head_is (found.0, at + 1 + found.1) (i, next) e)) (of_code (drop at code) found p)

-- what an answer is made of
pub by_both : {A B E R : Type 0} (r : Result A E) (k : A → Result B E) (b : B) → (r >>= k) ≡ Ok b → ((a : A) → r ≡ Ok a → k a ≡ Ok b → R) → R
by_both (Ok a) k b e go = go a refl e
by_both (Err x) k b e go = absurd (cc)

pub ok_is : {A E : Type 0} (a b : A) → ◌≡◌ {A = Result A E} (Ok a) (Ok b) → a ≡ b
ok_is a b e = cc

-- the listing of an image
abbrev ArePlaced : Image → List Entry → Type 0
ArePlaced image [] = Unit {0}
ArePlaced image (e ∷ es) = ((jumps : ℕ) × (is_placed image jumps e.1 ≡ true)) × ArePlaced image es

-- a listing: nothing where the code ended in END, else it is whole
record IsListed (image : Image) (at : ℕ) (ended : Bool) (es : List Entry) : Type 0 where
  placed : ArePlaced image es
  ends : es ≡ [] → ended ≡ true
  whole : (es ≡ [] → ⊥) → IsWhole image.code at es

end_is : (i : Op) → is_end i ≡ true → i ≡ does.End
end_is does.End e = refl
end_is other e = absurd (cc)

nothing_listed : (image : Image) (at : ℕ) (ended : Bool) (es : List Entry) → ended ≡ true → es ≡ [] → IsListed image at ended es
nothing_listed image at ended [] e f = record { placed = tt; ends = λ x. e; whole = λ n. absurd (n refl) }
nothing_listed image at ended (x ∷ es) e f = absurd (cc)

one_listed : (image : Image) (at next jumps : ℕ) (ended : Bool) (i : Op) (rest : List Entry) → decoded_at image.code at ≡ Some (i, next) → is_placed image jumps i ≡ true → IsListed image next (is_end i) rest → IsListed image at ended ((at, i) ∷ rest)
one_listed image at next jumps ended i [] e p h = record {
  placed = ((jumps, p), tt);
  ends = λ x. absurd (cc);
  whole = λ n. (refl, end_is i (h.ends refl), (next, e));
}
one_listed image at next jumps ended i (f ∷ rest) e p h = record {
  placed = ((jumps, p), h.placed);
  ends = λ x. absurd (cc);
  whole = λ n. (refl, (next, e, h.whole (λ x. absurd (cc))));
}

module _ (image : Image) (most at n jumps : ℕ) (ended : Bool) (es : List Entry) where
  abbrev Later : Type 0
  Later = (next : ℕ) (i : Op) (rest : List Entry) → listed_from image most next (n + 1) (jumps_after jumps i) (is_end i) ≡ Ok rest → IsListed image next (is_end i) rest

  abbrev others : Op → ℕ → Result (List Entry) Refusal
  others i next = listed_from image most next (n + 1) (jumps_after jumps i) (is_end i)

  listed_over : (t : Bool) → ended ≡ t → ◌≡◌ {A = Result (List Entry) Refusal} (if t then Ok [] else wrong_at n) (Ok es) → IsListed image at ended es
  listed_over true p f = nothing_listed image at ended es p (sym (ok_is [] es f))
  listed_over false p f = absurd (cc)

  listed_placed : (i : Op) (next : ℕ) (t : Bool) → decoded_at image.code at ≡ Some (i, next) → is_placed image jumps i ≡ t → ◌≡◌ {A = Result (List Entry) Refusal} (if t then (others i next >>= λ rest. Ok ((at, i) ∷ rest)) else wrong_at n) (Ok es) → Later → IsListed image at ended es
  listed_placed i next false d p f later = absurd (cc)
  listed_placed i next true d p f later = by_both (others i next) (λ rest. Ok ((at, i) ∷ rest)) es f (λ rest g h. subst (λ (xs : List Entry). IsListed image at ended xs) (ok_is ((at, i) ∷ rest) es h) (one_listed image at next jumps ended i rest d p (later next i rest g)))

  listed_found : (o : Option (Op × ℕ)) → decoded_at image.code at ≡ o → listed_with image at n jumps o others ≡ Ok es → Later → IsListed image at ended es
  listed_found None d f later = absurd (cc)
  listed_found (Some x) d f later = listed_placed x.0 x.1 (is_placed image jumps x.0) d refl f later

  listed_past : (t : Bool) → ◌≡◌ {A = Result (List Entry) Refusal} (if t then (if ended then Ok [] else wrong_at n) else listed_with image at n jumps (decoded_at image.code at) others) (Ok es) → Later → IsListed image at ended es
  listed_past true f later = listed_over ended refl f
  listed_past false f later = listed_found (decoded_at image.code at) refl f later

listed_is : (image : Image) (most at n jumps : ℕ) (ended : Bool) (es : List Entry) → listed_from image most at n jumps ended ≡ Ok es → IsListed image at ended es
listed_is image zero at n jumps ended es e = go (ended && nat_le (length image.code) at) refl e
  where
    go : (t : Bool) → ended && nat_le (length image.code) at ≡ t → ◌≡◌ {A = Result (List Entry) Refusal} (if t then Ok [] else wrong_at n) (Ok es) → IsListed image at ended es
    go true p f = nothing_listed image at ended es (and_left ended _ p) (sym (ok_is [] es f))
    go false p f = absurd (cc)
listed_is image (suc most) at n jumps ended es e = listed_past image most at n jumps ended es (nat_le (length image.code) at) e (λ next i rest. listed_is image most next (n + 1) (jumps_after jumps i) (is_end i) rest)

-- the links of an image's tags
abbrev pub IsLinked : Tag → TagLink → Type 0
IsLinked tag link = (tag.output ≡ is_stored link.site.access) × (tag.kind ≡ link.site.kind)

allowed_is : (tag : Tag) (link l : TagLink) → allowed tag link ≡ Ok l → IsLinked tag l
allowed_is tag link l e = kinds (nat_eq (code_of tag.kind) (code_of link.site.kind)) refl e
  where
    access : (t : Bool) → same_bool tag.output (is_stored link.site.access) ≡ t → tag.kind ≡ link.site.kind → ◌≡◌ {A = Result TagLink RefusalKind} (if not t then Err TagAccess else Ok link) (Ok l) → IsLinked tag l
    access true p k f = subst (λ (x : TagLink). IsLinked tag x) (ok_is link l f) (same_bool_is _ _ p, k)
    access false p k f = absurd (cc)

    kinds : (t : Bool) → nat_eq (code_of tag.kind) (code_of link.site.kind) ≡ t → ◌≡◌ {A = Result TagLink RefusalKind} (if not t then Err TagType else (if not (same_bool tag.output (is_stored link.site.access)) then Err TagAccess else Ok link)) (Ok l) → IsLinked tag l
    kinds true p f = access (same_bool tag.output (is_stored link.site.access)) refl (same_code tag.kind link.site.kind p) f
    kinds false p f = absurd (cc)

found_is : (site : List SiteTag) (tag : Tag) (o : Option ℕ) (l : TagLink) → found site tag o ≡ Ok l → IsLinked tag l
found_is site tag None l e = absurd (cc)
found_is site tag (Some n) l e = in_site (slice_get site n) e
  where
    in_site : (o : Option SiteTag) → there tag n o ≡ Ok l → IsLinked tag l
    in_site None f = absurd (cc)
    in_site (Some s) f = allowed_is tag (record { number = n; site = s }) l f

refused_is : {A : Type 0} (n : ℕ) (r : Result A RefusalKind) (a : A) → refused_at n r ≡ Ok a → r ≡ Ok a
refused_is n (Ok b) a e = ap Ok (ok_is b a e)
refused_is n (Err x) a e = absurd (cc)

abbrev pub AreLinked : List Tag → List TagLink → Type 0
AreLinked [] [] = Unit {0}
AreLinked [] (l ∷ ls) = ⊥
AreLinked (t ∷ ts) [] = ⊥
AreLinked (t ∷ ts) (l ∷ ls) = IsLinked t l × AreLinked ts ls

pub links_are : (site : List SiteTag) (n : ℕ) (tags : List Tag) (links : List TagLink) → links_from site n tags ≡ Ok links → AreLinked tags links
links_are site n [] [] e = tt
links_are site n [] (l ∷ ls) e = absurd (cc)
links_are site n (t ∷ ts) links e = by_both (refused_at n (link_of site t)) (λ link. links_from site (n + 1) ts >>= λ others. Ok (link ∷ others)) links e
    (λ link p f. by_both (links_from site (n + 1) ts) (λ others. Ok (link ∷ others)) links f
    (λ others q g. subst (λ (ls : List TagLink). AreLinked (t ∷ ts) ls) (ok_is (link ∷ others) links g) (found_is site t (number_of site t.name) link (refused_is n (link_of site t) link p), links_are site (n + 1) ts others q)))

same_tags : (tags : List Tag) (links : List TagLink) (t : ℕ) → AreLinked tags links → SameTag (slice_get tags t) (slice_get (map range_of links) t)
same_tags [] [] t h = tt
same_tags [] (l ∷ ls) t h = absurd h
same_tags (x ∷ ts) [] t h = absurd h
same_tags (x ∷ ts) (l ∷ ls) zero h = h.0
same_tags (x ∷ ts) (l ∷ ls) (suc t) h = same_tags ts ls t h.1

-- places
tag_there : (output : Bool) (o : Option Tag) (r : Option TagRange) → SameTag o r → is_tag output o ≡ true → IsTag output r
tag_there output None r s e = absurd (cc)
tag_there output (Some g) None s e = absurd s
tag_there output (Some g) (Some r) s e = sym s.0 ∙ same_bool_is g.output output e

less_is : (m n : ℕ) → nat_lt m n ≡ true → m < n
less_is m n e = grind arith

placed_is : (image : Image) (c : Context) (jumps : ℕ) (i : Op) → ((t : ℕ) → SameTag (slice_get image.tags t) (slice_get c.tags t)) → IsNumber i → is_placed image jumps i ≡ true → IsPlaced image c 256 i
placed_is image c jumps (does.LoadInput t) s n e = tag_there false (slice_get image.tags t) (slice_get c.tags t) (s t) e
placed_is image c jumps (does.LoadPresence t) s n e = tag_there false (slice_get image.tags t) (slice_get c.tags t) (s t) e
placed_is image c jumps (does.StoreOutput t) s n e = tag_there true (slice_get image.tags t) (slice_get c.tags t) (s t) e
placed_is image c jumps (does.SetOutput t) s n e = tag_there true (slice_get image.tags t) (slice_get c.tags t) (s t) e
placed_is image c jumps (does.ResetOutput t) s n e = tag_there true (slice_get image.tags t) (slice_get c.tags t) (s t) e
placed_is image c jumps (does.LoadNumber k m) s n e = n
placed_is image c jumps (does.Repeat condition k limit to) s n e =
    (nat_is image.version 2 (and_left (nat_eq image.version 2) (nat_eq k jumps) (and_left (nat_eq image.version 2 && nat_eq k jumps) (nat_lt k 256) e)), less_is k 256 (and_right (nat_eq image.version 2 && nat_eq k jumps) (nat_lt k 256) e))
placed_is image c jumps other s n e = tt

placed_at : (image : Image) (es : List Entry) (n : ℕ) (e : Entry) → ArePlaced image es → slice_get es n ≡ Some e → (jumps : ℕ) × (is_placed image jumps e.1 ≡ true)
placed_at image [] n e h p = absurd (cc)
placed_at image (x ∷ es) zero e h p = subst (λ (y : Entry). (jumps : ℕ) × (is_placed image jumps y.1 ≡ true)) (head_is x e p) h.0
placed_at image (x ∷ es) (suc n) e h p = placed_at image es n e h.1 p

-- ranges lie in their types
ranged_is : (k : IlType) (low high start : ℤ) → IsTrue (is_ranged k low high start) → (low_of k ≤ℤ low) × (high ≤ℤ high_of k)
ranged_is k low high start h =
    let f : is_ranged k low high start ≡ true = h in (
      true_le (low_of k) low (and_left (int_le (low_of k) low) (is_within low high start) (and_left (int_le (low_of k) low && is_within low high start) (int_le high (high_of k)) f)),
      true_le high (high_of k) (and_right (int_le (low_of k) low && is_within low high start) (int_le high (high_of k)) f),
    )

link_ranged : (links : List TagLink) (t : ℕ) (r : TagRange) → slice_get (map range_of links) t ≡ Some r → (low_of r.kind ≤ℤ r.low) × (r.high ≤ℤ high_of r.kind)
link_ranged [] t r e = absurd (cc)
link_ranged (l ∷ ls) zero r e = subst (λ (x : TagRange). (low_of x.kind ≤ℤ x.low) × (x.high ≤ℤ high_of x.kind)) (head_is (range_of l) r e) (ranged_is l.site.kind l.site.low l.site.high _ l.site.ranged)
link_ranged (l ∷ ls) (suc t) r e = link_ranged ls t r e

pub made_from : (image : Image) (site : List SiteTag) (depth : ℕ) (c : Context) → IsProper image → frame_of image site depth ≡ Ok c → IsMadeFrom image 256 c
made_from image site depth c proper e = by_both (links_from site 0 image.tags) (λ links. listing_of image >>= λ listing. Ok (record { variables = image.vars; tags = map range_of links; depth = depth; listing = listing })) c e
    (λ links p f. by_both (listing_of image) (λ listing. Ok (record { variables = image.vars; tags = map range_of links; depth = depth; listing = listing })) c f
    (λ listing q g. subst (λ (x : Context). IsMadeFrom image 256 x) (ok_is (record { variables = image.vars; tags = map range_of links; depth = depth; listing = listing }) c g)
    (framed links listing (links_are site 0 image.tags links p) (listed_is image (length image.code) 0 0 0 false listing q))))
  where
    framed : (links : List TagLink) (listing : List Entry) → AreLinked image.tags links → IsListed image 0 false listing → IsMadeFrom image 256 (record { variables = image.vars; tags = map range_of links; depth = depth; listing = listing })
    framed links listing h l = record {
      variables = refl;
      tags = tags;
      whole = whole;
      placed = λ n e p. let x = placed_at image listing n e l.placed p in placed_is image (record { variables = image.vars; tags = map range_of links; depth = depth; listing = listing }) x.0 e.1 tags (number n e p) x.1;
      of_variables = λ i d e. ranged_is d.kind d.low d.high d.start d.ranged;
      of_tags = λ t r e. link_ranged links t r e;
      of_bools = bool_is_whole image proper;
    }
      where
        tags : (t : ℕ) → SameTag (slice_get image.tags t) (slice_get (map range_of links) t)
        tags t = same_tags image.tags links t h

        whole : IsWhole image.code 0 listing
        whole = l.whole (λ none. absurd (not_ended (l.ends none)))
          where
            not_ended : false ≡ true → ⊥
            not_ended e = absurd (cc)

        number : (n : ℕ) (e : Entry) → slice_get listing n ≡ Some e → IsNumber e.1
        number n e p = let s = whole_stands image.code 0 listing whole n e p in decoded_number image.code e.0 s.next e.1 s.decoded

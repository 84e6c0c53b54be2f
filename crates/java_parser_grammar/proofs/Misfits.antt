-- Where the walk over the items of a file stops is what does not fit.
use Rattle.std.proofs.Common.{◌≡◌, ◌⊎◌, inl, inr, Bool, true, false, List, [], ◌∷◌, ◌++◌, Option, Some, None}
use Rattle.std.proofs.Common.{Result, Ok, Err, refl, ap, sym, subst, ◌∙◌, codes}
use Rattle.std.specs.Prelude.{if◌then◌else◌}
use Rattle.std.proofs.lemmas.List.{append_assoc, append-nil}
use Rattle.java_tree.specs.declared.words.Spelled.{Spelled}
use Rattle.java_tree.specs.Words.{keyword, identifier, sign}
use Rattle.java_parser_grammar.specs.Pieces.{Item}
use Rattle.java_parser_grammar.specs.UnitExamples.{placed}
use Rattle.java_parser_grammar.specs.Declarations.{AreDeclarations, CanBegin, GoesOn, IsMisfit}
use Rattle.java_parser_grammar.specs.DeclarationWalk.{Seen, Whole, Modifiers, AtSign, AnnotationName, AnnotationPoint}
use Rattle.java_parser_grammar.specs.DeclarationWalk.{TypeWord}
use Rattle.java_parser_grammar.specs.DeclarationWalk.{TypeName, Directive, seen_with, is_whole, and_before}
use Rattle.java_parser_grammar.specs.DeclarationWalk.{declarations}
use Rattle.java_parser_grammar.proofs.WalkedFiles.{from, declarations_are, walk_is_file, file_is_walk}

abbrev Declared : Type 0
Declared = Result (List (List Item)) (List Item)

abbrev start : Seen
start = Whole true true

-- ---- what is seen behind items

abbrev Sees : Seen → List Item → Seen → Type 0
Sees s [] m = s ≡ m
Sees s (i ∷ is) m = (n : Seen) × (seen_with s i ≡ Some n) × Sees n is m

sees_more : (before : List Item) (s m n : Seen) (i : Item) → Sees s before m → seen_with m i ≡ Some n
    → Sees s (before ++ i ∷ []) n
sees_more [] s m n i h e = (n, ap (λ s. seen_with s i) h ∙ e, refl)
sees_more (j ∷ js) s m n i h e = (h.0, h.1, sees_more js h.0 m n i h.2 e)

one_more : (s n : Seen) (i : Item) (is : List Item) → seen_with s i ≡ Some n → declarations s (i ∷ is)
    ≡ and_before (is_whole n) i (declarations n is)
one_more s n i is e = declarations_are s i is ∙ ap (λ o. from o i is) e

abbrev IsCut : Seen → List Item → Type 0
IsCut s is = (ds : List (List Item)) × (declarations s is ≡ Ok ds)

comes_cut : (before : List Item) (s m : Seen) (rest : List Item) → Sees s before m → IsCut m rest
    → IsCut s (before ++ rest)
comes_cut [] s m rest h c = (c.0, ap (λ s. declarations s rest) h ∙ c.1)
comes_cut (i ∷ is) s m rest h c =
    let k = comes_cut is h.0 m rest h.2 c in
    cut_before (is_whole h.0) k.0 (one_more s h.0 i (is ++ rest) h.1 ∙ ap (and_before (is_whole h.0) i) k.1) where
      cut_before : (b : Bool) (ds : List (List Item)) → declarations s (i ∷ is ++ rest) ≡ and_before b i (Ok ds)
          → IsCut s (i ∷ is ++ rest)
      cut_before b ds e = (_, e)

comes_stop : (before : List Item) (s m : Seen) (rest left : List Item) → Sees s before m
    → declarations m rest ≡ Err left → declarations s (before ++ rest) ≡ Err left
comes_stop [] s m rest left h e = ap (λ s. declarations s rest) h ∙ e
comes_stop (i ∷ is) s m rest left h e =
    one_more s h.0 i (is ++ rest) h.1
    ∙ ap (and_before (is_whole h.0) i) (comes_stop is h.0 m rest left h.2 e)

cut_behind : (b : Bool) (i : Item) (r : Declared) (ds : List (List Item)) → and_before b i r ≡ Ok ds
    → (es : List (List Item)) × (r ≡ Ok es)
cut_behind b i (Ok es) ds e = (es, refl)
cut_behind b i (Err rest) ds e = absurd cc

abbrev Leads : Seen → List Item → Type 0
Leads s before = (m : Seen) × Sees s before m

cut_comes_by : (o : Option Seen) (s : Seen) (i : Item) (is rest : List Item) (ds : List (List Item))
    → seen_with s i ≡ o → from o i (is ++ rest) ≡ Ok ds
    → ((n : Seen) (es : List (List Item)) → declarations n (is ++ rest) ≡ Ok es → Leads n is) → Leads s (i ∷ is)
cut_comes_by None s i is rest ds n e all = absurd cc
cut_comes_by (Some m) s i is rest ds n e all =
    let c = cut_behind (is_whole m) i (declarations m (is ++ rest)) ds e in
    let k = all m c.0 c.1 in (k.0, (m, n, k.1))

cut_comes : (before : List Item) (s : Seen) (rest : List Item) (ds : List (List Item))
    → declarations s (before ++ rest) ≡ Ok ds → Leads s before
cut_comes [] s rest ds e = (s, refl)
cut_comes (i ∷ is) s rest ds e =
    cut_comes_by (seen_with s i) s i is rest ds refl (sym (declarations_are s i (is ++ rest)) ∙ e)
    (λ n es h. cut_comes is n rest es h)

-- ---- items that end a file

abbrev one : Spelled → Item
one s = placed 1 s ∷ []

abbrev ended_type : List Item
ended_type = one (identifier (codes "A")) ∷ one (sign (codes "{")) ∷ []

abbrev a_type : List Item
a_type = one (keyword (codes "class")) ∷ ended_type

abbrev Completed : Seen → Type 0
Completed s = (more : List Item) × IsCut s more

completed : (s : Seen) → Completed s
completed (Whole early imports) = ([], ([], refl))
completed (Modifiers early) = (a_type, (_, refl))
completed (AtSign early) = (one (identifier (codes "A")) ∷ a_type, (_, refl))
completed (AnnotationName early) = (a_type, (_, refl))
completed (AnnotationPoint early) = (one (identifier (codes "A")) ∷ a_type, (_, refl))
completed TypeWord = (ended_type, (_, refl))
completed TypeName = (one (sign (codes "{")) ∷ [], (_, refl))
completed Directive = (one (sign (codes ";")) ∷ [], (_, refl))

can_begin : (before : List Item) (m : Seen) → Sees start before m → CanBegin before
can_begin before m h =
    let c = completed m in
    let k = comes_cut before start m c.0 h c.1 in (c.0, k.0, walk_is_file (before ++ c.0) k.0 k.1)

-- ---- where the walk stops

abbrev StopsAt : Seen → List Item → Type 0
StopsAt m [] = is_whole m ≡ false
StopsAt m (i ∷ is) = seen_with m i ≡ None

record Stops (s : Seen) (is rest : List Item) : Type 0 where
  pub before : List Item
  pub parts : before ++ rest ≡ is
  pub last : Seen
  pub comes : Sees s before last
  pub stopped : StopsAt last rest

abbrev when_whole : Bool → Declared
when_whole b = if b then Ok [] else Err []

stops_at_end : (s : Seen) (b : Bool) (rest : List Item) → is_whole s ≡ b → when_whole b ≡ Err rest → Stops s [] rest
stops_at_end s true rest w e = absurd cc
stops_at_end s false rest w e =
    let none : [] ≡ rest = cc in
    subst (Stops s []) none (record { before = []; parts = refl; last = s; comes = refl; stopped = w })

stopped_behind : (b : Bool) (i : Item) (r : Declared) (rest : List Item) → and_before b i r ≡ Err rest → r ≡ Err rest
stopped_behind b i (Ok es) rest e = absurd cc
stopped_behind b i (Err left) rest e = e

stops_by : (o : Option Seen) (s : Seen) (i : Item) (is rest : List Item) → seen_with s i ≡ o → from o i is ≡ Err rest
    → ((m : Seen) → declarations m is ≡ Err rest → Stops m is rest) → Stops s (i ∷ is) rest
stops_by None s i is rest n e all =
    let same : i ∷ is ≡ rest = cc in
    subst (Stops s (i ∷ is)) same (record { before = []; parts = refl; last = s; comes = refl; stopped = n })
stops_by (Some m) s i is rest n e all =
    let k = all m (stopped_behind (is_whole m) i (declarations m is) rest e) in
    record {
      before = i ∷ k.before;
      parts = ap (λ l. i ∷ l) k.parts;
      last = k.last;
      comes = (m, n, k.comes);
      stopped = k.stopped;
    }

stops : (is : List Item) (s : Seen) (rest : List Item) → declarations s is ≡ Err rest → Stops s is rest
stops [] s rest e = stops_at_end s (is_whole s) rest refl e
stops (i ∷ is) s rest e =
    stops_by (seen_with s i) s i is rest refl (sym (declarations_are s i is) ∙ e) (λ m h. stops is m rest h)

ok_not_err : (r : Declared) (ds : List (List Item)) (rest : List Item) → r ≡ Ok ds → r ≡ Err rest → ⊥
ok_not_err r ds rest e f = let no : ◌≡◌ {A = Declared} (Ok ds) (Err rest) = sym e ∙ f in cc

stop_at : (m : Seen) (rest : List Item) → StopsAt m rest → declarations m rest ≡ Err rest
stop_at m [] h = ap when_whole h
stop_at m (i ∷ is) h = declarations_are m i is ∙ ap (λ o. from o i is) h

does_not_go_on : (before rest : List Item) (m : Seen) → Sees start before m → StopsAt m rest → GoesOn before rest → ⊥
does_not_go_on before [] m h s g =
    ok_not_err (declarations start before) g.0 [] (file_is_walk before g.0 g.1)
    (ap (declarations start) (sym (append-nil before)) ∙ comes_stop before start m [] [] h (stop_at m [] s))
does_not_go_on before (i ∷ is) m h s g =
    ok_not_err (declarations start ((before ++ i ∷ []) ++ g.0)) g.1 (i ∷ g.0)
    (file_is_walk ((before ++ i ∷ []) ++ g.0) g.1 g.2)
    (ap (declarations start) (append_assoc before (i ∷ []) g.0)
    ∙ comes_stop before start m (i ∷ g.0) (i ∷ g.0) h (stop_at m (i ∷ g.0) s))

-- where it stops does not fit
pub stop_is_misfit : (is rest : List Item) → declarations (Whole true true) is ≡ Err rest → IsMisfit is rest
stop_is_misfit is rest e =
    let k = stops is start rest e in
    record {
      before = k.before;
      parts = k.parts;
      begun = can_begin k.before k.last k.comes;
      unfit = does_not_go_on k.before rest k.last k.comes k.stopped;
    }

-- ---- and it stops at what does not fit

stop_of_none : (before : List Item) (m : Seen) (b : Bool) → is_whole m ≡ b → Sees start before m
    → (GoesOn before [] → ⊥) → declarations start (before ++ []) ≡ Err []
stop_of_none before m true w h unfit =
    let c = comes_cut before start m [] h ([], ap when_whole w) in
    absurd (unfit (c.0, walk_is_file before c.0 (ap (declarations start) (sym (append-nil before)) ∙ c.1)))
stop_of_none before m false w h unfit = comes_stop before start m [] [] h (ap when_whole w)

stop_of_some : (before : List Item) (m : Seen) (i : Item) (is : List Item) (o : Option Seen) → seen_with m i ≡ o
    → Sees start before m → (GoesOn before (i ∷ is) → ⊥) → declarations start (before ++ i ∷ is) ≡ Err (i ∷ is)
stop_of_some before m i is None n h unfit = comes_stop before start m (i ∷ is) (i ∷ is) h (stop_at m (i ∷ is) n)
stop_of_some before m i is (Some s) n h unfit =
    absurd (unfit (can_begin (before ++ i ∷ []) s (sees_more before start m s i h n)))

stop_of : (before rest : List Item) (m : Seen) → Sees start before m → (GoesOn before rest → ⊥)
    → declarations start (before ++ rest) ≡ Err rest
stop_of before [] m h unfit = stop_of_none before m (is_whole m) refl h unfit
stop_of before (i ∷ is) m h unfit = stop_of_some before m i is (seen_with m i) refl h unfit

pub misfit_is_stop : (is rest : List Item) → IsMisfit is rest → declarations (Whole true true) is ≡ Err rest
misfit_is_stop is rest h =
    let more = h.begun.0 in
    let k = cut_comes h.before start more h.begun.1 (file_is_walk (h.before ++ more) h.begun.1 h.begun.2) in
    ap (declarations start) (sym h.parts) ∙ stop_of h.before rest k.0 k.1 h.unfit

-- ---- one cut, or one token that does not fit

pub one_cut : (is : List Item) (ds es : List (List Item)) → AreDeclarations is ds → AreDeclarations is es → ds ≡ es
one_cut is ds es h k =
    let both : ◌≡◌ {A = Declared} (Ok ds) (Ok es) = sym (file_is_walk is ds h) ∙ file_is_walk is es k in cc

pub not_both : (is rest : List Item) (ds : List (List Item)) → AreDeclarations is ds → IsMisfit is rest → ⊥
not_both is rest ds h k =
    ok_not_err (declarations start is) ds rest (file_is_walk is ds h) (misfit_is_stop is rest k)

pub one_misfit : (is rest other : List Item) → IsMisfit is rest → IsMisfit is other → rest ≡ other
one_misfit is rest other h k =
    let both : ◌≡◌ {A = Declared} (Err rest) (Err other) = sym (misfit_is_stop is rest h) ∙ misfit_is_stop is other k in
    cc

abbrev IsEither : List Item → Type 0
IsEither is = ((ds : List (List Item)) × AreDeclarations is ds) ⊎ ((rest : List Item) × IsMisfit is rest)

pub cut_or_misfit : (is : List Item) → IsEither is
cut_or_misfit is = by_walk (declarations start is) refl where
  by_walk : (r : Declared) → declarations start is ≡ r → IsEither is
  by_walk (Ok ds) e = inl (ds, walk_is_file is ds e)
  by_walk (Err rest) e = inr (rest, stop_is_misfit is rest e)

-- The loops that read the tokens of a local class: what they have, and what they still read.
use Rattle.std.proofs.Common.{◌≡◌, ℕ, ◌≤◌, Bool, true, false, List, [], ◌∷◌, ◌++◌, length, Option, Some, None, codes}
use Rattle.std.proofs.Common.{Result, Ok, Err, IfOk, refl, sym, ap, ◌∙◌, subst, append_assoc, append-nil, arith}
use Rattle.std.specs.Prelude.{◌&&◌, ◌||◌, not, bytes_eq}
use Rattle.std.proofs.Common.{get_or, take, drop, ◌-◌}
use Rattle.std.proofs.lemmas.List.{take_all}
use Rattle.std.specs.Cmp.Lexicographic.{bytes_decides}
use Rattle.java_lexer.specs.declared.token.Token.{Token}
use Rattle.java_lexer.specs.declared.token.TokenKind.{TokenKind}
use Rattle.java_lexer.specs.declared.token.TokenKind.TheVariants as kind
use Rattle.java_tree.specs.declared.words.Spelled.{Spelled}
use Rattle.java_tree.specs.Brackets.{is_keyword_kind, is_name_kind, is_keyword, is_sign, is_word_name, is_class_word}
use Rattle.java_tree.specs.Brackets.{are_none, awaited_in_head}
use Rattle.java_tree.specs.KeptPlaces.{Places, Marks, is_kept, kept, each_marks, no_place, no_places, behind_name}
use Rattle.java_tree.specs.Words.{keyword, identifier}
use Rattle.java_parser_grammar.specs.BalancedReading.{between_at}
use Rattle.java_parser_grammar.specs.StatementReading.{class_from, local_class_at}
use Rattle.java_parser_grammar.specs.Taking.{◌>>=◌, after_keyword, after_name}
use Rattle.java_parser_lookahead.specs.declared.brackets.Bracket.{Bracket}
use Rattle.java_parser_types.specs.declared.error.ReadError.{ReadError}
use Rattle.java_parser_types.specs.declared.error.ReadError.TheVariants.{Memory, Unformed}
use Rattle.java_parser_lookahead.specs.AwaitedBrackets.{closing, awaited_onto}
use Rattle.java_parser_types.specs.Tokens.{spelled}
use Rattle.java_parser_types.specs.Finishing.{finished}
use Rattle.java_parser_types.specs.Endings.{as_they_are}
use Rattle.java_parser_types.specs.LedPlaces.{Leads}
use Rattle.java_parser_types.specs.ReadAnswer.{Fails}
use Rattle.java_parser_types.proofs.LedMarks.{one_led}
use Rattle.java_parser_types.proofs.ReadLoops.{regroup}
use Rattle.java_parser_types.proofs.ReadParts.{part_fails}
use Rattle.java_parser_methods.specs.ClassReading.{Appends, class_words_at, class_head_at, named_class_at}

-- ---- words of a class

either : (P : Type 0) (a b : Bool) → a || b ≡ true → (a ≡ true → P) → (b ≡ true → P) → P
either P true b e f g = f refl
either P false b e f g = g e

keyword_unkept : (word : List ℕ) → is_kept kind.Keyword word ≡ false → (k : TokenKind) (own : List ℕ) (glued : Bool)
    → (is_keyword_kind k && (not glued && bytes_eq own word)) ≡ true → is_kept k own ≡ false
keyword_unkept word lacks kind.Keyword own false e = rw ((bytes_decides own word).0 e) lacks
keyword_unkept word lacks kind.Keyword own true e = absurd cc
keyword_unkept word lacks _ own glued e = absurd cc

word_unkept : (t : Spelled) → is_class_word t ≡ true → is_kept t.kind t.text ≡ false
word_unkept t e =
    either (is_kept t.kind t.text ≡ false) (is_keyword (codes "final") t) (is_keyword (codes "abstract") t) e
    (keyword_unkept (codes "final") refl t.kind t.text t.glued)
    (keyword_unkept (codes "abstract") refl t.kind t.text t.glued)

name_kept : (k : TokenKind) (own : List ℕ) (glued : Bool) → (is_name_kind k && not glued) ≡ true → is_kept k own ≡ true
name_kept kind.Name own glued e = refl
name_kept _ own glued e = absurd cc

keyword_unnamed : (word : List ℕ) (k : TokenKind) (own : List ℕ) (glued : Bool)
    → (is_keyword_kind k && (not glued && bytes_eq own word)) ≡ true → (is_name_kind k && not glued) ≡ false
keyword_unnamed word kind.Keyword own glued e = refl
keyword_unnamed word _ own glued e = absurd cc

word_unnamed : (t : Spelled) → is_class_word t ≡ true → is_word_name t ≡ false
word_unnamed t e =
    either (is_word_name t ≡ false) (is_keyword (codes "final") t) (is_keyword (codes "abstract") t) e
    (keyword_unnamed (codes "final") t.kind t.text t.glued)
    (keyword_unnamed (codes "abstract") t.kind t.text t.glued)

pub word_behind : (t : Token) (ts : List Token) → is_class_word (spelled t) ≡ true → kept ts ≡ kept (t ∷ ts)
word_behind t ts e = rw (word_unkept (spelled t) e) refl

pub still_unnamed : (front : List Spelled) (t copy : Spelled) → is_class_word t ≡ true → Some t ≡ Some copy
    → ((more : List Spelled) → behind_name (front ++ more) ≡ behind_name more) → (more : List Spelled)
    → behind_name ((front ++ copy ∷ []) ++ more) ≡ behind_name more
still_unnamed front t copy e same so_far more =
    let equal : t ≡ copy = cc in
    let lacks : is_word_name copy ≡ false = rw equal at (word_unnamed t e) in
    ap behind_name (append_assoc front (copy ∷ []) more) ∙ (so_far (copy ∷ more) ∙ rw lacks refl)

-- the word `class` and a name: only the name's place is kept
head_kept : (w n : Token) (ts : List Token) → is_keyword (codes "class") (spelled w) ≡ true
    → (is_name_kind n.kind && not n.glued) ≡ true → n.place ∷ kept ts ≡ kept (w ∷ n ∷ ts)
head_kept w n ts word name =
    rw (keyword_unkept (codes "class") refl w.kind w.text w.glued word, name_kept n.kind n.text n.glued name) refl

pub head_places : (us : List Token) (w n : Token) → 2 ≤ length us → w ≡ get_or us 0 w → n ≡ get_or us 1 n
    → is_keyword (codes "class") (spelled w) ≡ true → (is_name_kind n.kind && not n.glued) ≡ true
    → n.place ∷ kept (take (length us - 2) (drop 2 us)) ≡ kept us
head_places [] w n le e f word name = absurd (omega arith)
head_places (a ∷ []) w n le e f word name = absurd (omega arith)
head_places (a ∷ b ∷ ts) w n le e f word name =
    let all : take (length (a ∷ b ∷ ts) - 2) ts ≡ ts = take_all (length (a ∷ b ∷ ts) - 2) ts (omega arith) in
    let first : w ≡ a = e in
    let second : n ≡ b = f in
    ap (λ (l : List Token). n.place ∷ kept l) all ∙ (head_kept w n ts word name
    ∙ ap kept (ap (λ (x : Token). x ∷ n ∷ ts) first ∙ ap (λ (x : Token). a ∷ x ∷ ts) second))

module _ (total : Option (List Spelled × List Spelled)) (front : List Spelled) where
  pub words_go_on : (t copy : Spelled) (ts : List Spelled) → is_class_word t ≡ true → Some t ≡ Some copy
      → finished as_they_are front (class_words_at (t ∷ ts)) ≡ total
      → finished as_they_are (front ++ copy ∷ []) (class_words_at ts) ≡ total
  unfolding class_words_at
  words_go_on t copy ts e same so_far =
      let equal : t ≡ copy = cc in
      let one : finished as_they_are front (class_words_at (t ∷ ts)) ≡ finished as_they_are (front ++ t ∷ [])
      (class_words_at ts) = rw e (regroup as_they_are front t (class_words_at ts)) in
      ap (λ (x : Spelled). finished as_they_are (front ++ x ∷ []) (class_words_at ts)) (sym equal)
      ∙ (sym one ∙ so_far)

  pub words_end : (t : Spelled) (ts : List Spelled) → is_class_word t ≡ false
      → finished as_they_are front (class_words_at (t ∷ ts)) ≡ total → total ≡ Some (front, t ∷ ts)
  unfolding class_words_at
  words_end t ts e so_far =
      let one : finished as_they_are front (class_words_at (t ∷ ts)) ≡ Some (front, t ∷ ts) =
      rw e (ap (λ (xs : List Spelled). Some (xs, t ∷ ts)) (append-nil front)) in
      sym so_far ∙ one

  pub words_run_out : finished as_they_are front (class_words_at []) ≡ total → total ≡ Some (front, [])
  unfolding class_words_at
  words_run_out so_far = sym so_far ∙ ap (λ (xs : List Spelled). Some (xs, [])) (append-nil front)

-- ---- the head and the braces

awaited_some : (bs : List Bracket) (inner : List ℕ) (outer : List (List ℕ))
    → are_none (awaited_onto bs (inner ∷ outer)) ≡ false
awaited_some [] inner outer = refl
awaited_some (b ∷ bs) inner outer = awaited_some bs (closing b) (inner ∷ outer)

pub some_awaited : (bs : List Bracket) → 1 ≤ length bs → false ≡ are_none (awaited_onto bs [])
some_awaited [] le = absurd (omega arith)
some_awaited (b ∷ bs) le = sym (awaited_some bs (closing b) [])

module _ (total : Option (List Spelled × List Spelled)) (front : List Spelled) (awaited : List (List ℕ)) where
  pub class_goes_on : (now : List (List ℕ)) (t copy : Spelled) (ts : List Spelled) → is_sign (codes "{") t ≡ false
      → awaited_in_head t awaited ≡ Some now → Some t ≡ Some copy
      → finished as_they_are front (class_from awaited (t ∷ ts)) ≡ total
      → finished as_they_are (front ++ copy ∷ []) (class_from now ts) ≡ total
  unfolding class_from
  class_goes_on now t copy ts e g same so_far =
      let equal : t ≡ copy = cc in
      let one : finished as_they_are front (class_from awaited (t ∷ ts)) ≡ finished as_they_are (front ++ t ∷ [])
      (class_from now ts) = rw (e, g) (regroup as_they_are front t (class_from now ts)) in
      ap (λ (x : Spelled). finished as_they_are (front ++ x ∷ []) (class_from now ts)) (sym equal)
      ∙ (sym one ∙ so_far)

  pub class_fails : (e : ReadError) (t : Spelled) (ts : List Spelled) → is_sign (codes "{") t ≡ false
      → Fails e (awaited_in_head t awaited) → finished as_they_are front (class_from awaited (t ∷ ts)) ≡ total
      → Fails e total
  unfolding class_from
  class_fails Memory t ts b g so_far = tt
  class_fails Unformed t ts b g so_far =
      let one : finished as_they_are front (class_from awaited (t ∷ ts)) ≡ None = rw (b, g) refl in
      sym so_far ∙ one

  pub class_ends : (t : Spelled) (ts : List Spelled) → is_sign (codes "{") t ≡ true → are_none awaited ≡ true
      → finished as_they_are front (class_from awaited (t ∷ ts)) ≡ total
      → total ≡ finished as_they_are front (between_at (codes "}") (t ∷ ts))
  unfolding class_from
  class_ends t ts e none so_far =
      let one : finished as_they_are front (class_from awaited (t ∷ ts)) ≡ finished as_they_are front
      (between_at (codes "}") (t ∷ ts)) = rw (e, none) refl in
      sym so_far ∙ one

  pub class_nested : (t : Spelled) (ts : List Spelled) → is_sign (codes "{") t ≡ true → are_none awaited ≡ false
      → finished as_they_are front (class_from awaited (t ∷ ts)) ≡ total → total ≡ None
  unfolding class_from
  class_nested t ts e none so_far =
      let one : finished as_they_are front (class_from awaited (t ∷ ts)) ≡ None = rw (e, none) refl in
      sym so_far ∙ one

  pub class_lacks : finished as_they_are front (class_from awaited []) ≡ total → total ≡ None
  unfolding class_from
  class_lacks so_far = sym so_far

-- ---- tokens behind others

each_append : {A : Type 0} (marks : A → Marks → Marks) (xs ys : List A) (rest : Marks)
    → each_marks marks (xs ++ ys) rest ≡ each_marks marks xs (each_marks marks ys rest)
each_append marks [] ys rest = refl
each_append marks (x ∷ xs) ys rest = ap (marks x) (each_append marks xs ys rest)

pub appends_none : (front : List Spelled) (here : Places) → Appends front front here here
appends_none front here = record { others = []; are = sym (append-nil front); led = λ rest a. a }

pub appends_one : (front all : List Spelled) (copy : Spelled) (here at left : Places) → Appends front all here at
    → Leads (no_place copy) at left → Appends front (all ++ copy ∷ []) here left
appends_one front all copy here at left so_far one =
    record {
      others = so_far.others ++ copy ∷ [];
      are = ap (λ (l : List Spelled). l ++ copy ∷ []) so_far.are ∙ append_assoc front so_far.others (copy ∷ []);
      led = one_led no_place so_far.others copy here at left so_far.led one;
    }

appends_both : (front mid all : List Spelled) (here at left : Places) → Appends front mid here at
    → Appends mid all at left → Appends front all here left
appends_both front mid all here at left a b =
    record {
      others = a.others ++ b.others;
      are = b.are ∙ (ap (λ (l : List Spelled). l ++ b.others) a.are ∙ append_assoc front a.others b.others);
      led = λ rest x. rw (each_append no_place a.others b.others rest) (a.led (no_places b.others rest)
          (b.led rest x));
    }

pub appends_through : {X : Type 0} (r : Result X ReadError) (all : X → List Spelled) (left : X → Places)
    (front mid : List Spelled) (here at : Places) → Appends front mid here at
    → IfOk r (λ x. Appends mid (all x) at (left x)) → IfOk r (λ x. Appends front (all x) here (left x))
appends_through (Ok x) all left front mid here at a b = appends_both front mid (all x) here at (left x) a b
appends_through (Err e) all left front mid here at a b = tt

-- ---- a class behind its words

joined : {A B C : Type 0} (o : Option A) (f : A → Option B) (g : B → Option C)
    → ((o >>= f) >>= g) ≡ (o >>= λ x. f x >>= g)
joined (Some x) f g = refl
joined None f g = refl

abbrev Class : Type 0
Class = (List ℕ × List Spelled) × List Spelled

abbrev with_word : Spelled → Class → Option Class
with_word t c = Some ((c.0.0, t ∷ c.0.1), c.1)

named_after : (t : Spelled) (front ts : List Spelled) → (named_class_at front ts >>= with_word t)
    ≡ named_class_at (t ∷ front) ts
named_after t front ts = by_head (class_head_at ts) where
  by_head : (o : Option (List ℕ × List Spelled)) → ((o >>= λ x. class_from [] x.1 >>= λ others. Some (
    (
      x.0,
      front ++ keyword (codes "class") ∷ identifier x.0 ∷ others.0,
    ),
    others.1,
  )) >>= with_word t) ≡ (o >>= λ x. class_from [] x.1 >>= λ others. Some (
    (
      x.0,
      (t ∷ front) ++ keyword (codes "class") ∷ identifier x.0 ∷ others.0,
    ),
    others.1,
  ))
  by_head None = refl
  by_head (Some x) = by_rest (class_from [] x.1) where
    by_rest : (p : Option (List Spelled × List Spelled)) → ((p >>= λ others. Some (
      (
        x.0,
        front ++ keyword (codes "class") ∷ identifier x.0 ∷ others.0,
      ),
      others.1,
    )) >>= with_word t) ≡ (p >>= λ others. Some (
      (
        x.0,
        (t ∷ front) ++ keyword (codes "class") ∷ identifier x.0 ∷ others.0,
      ),
      others.1,
    ))
    by_rest None = refl
    by_rest (Some others) = refl

abbrev one_word : Spelled → List Spelled × List Spelled → Option (List Spelled × List Spelled)
one_word t w = Some (t ∷ w.0, w.1)

named_from : (t : Spelled) (o : Option (List Spelled × List Spelled))
    → ((o >>= λ w. named_class_at w.0 w.1) >>= with_word t) ≡ ((o >>= one_word t) >>= λ w. named_class_at w.0 w.1)
named_from t None = refl
named_from t (Some w) = named_after t w.0 w.1

pub class_is_named : (ts : List Spelled) → local_class_at ts ≡ (class_words_at ts >>= λ w. named_class_at w.0 w.1)
unfolding local_class_at class_words_at
class_is_named [] = refl
class_is_named (t ∷ ts) = by_test (is_class_word t) refl (class_is_named ts) where
  by_test : (b : Bool) → is_class_word t ≡ b → local_class_at ts ≡ (class_words_at ts >>= λ w. named_class_at w.0 w.1)
      → local_class_at (t ∷ ts) ≡ (class_words_at (t ∷ ts) >>= λ w. named_class_at w.0 w.1)
  by_test true e more = rw e (ap (λ (o : Option Class). o >>= with_word t) more ∙ named_from t (class_words_at ts))
  by_test false e more = rw e (sym (joined (after_keyword (codes "class") (t ∷ ts)) after_name _))

abbrev pub with_name : List ℕ → List Spelled × List Spelled → Option Class
with_name x all = Some ((x, all.0), all.1)

-- what stands behind the name of a class was read behind its word and its name
class_gives : (front : List Spelled) (x : List ℕ) (w n : Spelled) (read given : Option (List Spelled × List
    Spelled))
    → Some (keyword (codes "class")) ≡ Some w → Some (identifier x) ≡ Some n
    → finished as_they_are ((front ++ w ∷ []) ++ n ∷ []) read ≡ given
    → (read >>= λ others. Some ((x, front ++ keyword (codes "class") ∷ identifier x ∷ others.0), others.1))
    ≡ (given >>= with_name x)
class_gives front x w n None given v u e = ap (λ (o : Option (List Spelled × List Spelled)). o >>= with_name x) e
class_gives front x w n (Some others) given v u e =
    let word : keyword (codes "class") ≡ w = cc in
    let name : identifier x ≡ n = cc in
    let all : front ++ keyword (codes "class") ∷ identifier x ∷ others.0 ≡ ((front ++ w ∷ []) ++ n ∷ []) ++ others.0 =
    ap (λ (a : Spelled). front ++ a ∷ identifier x ∷ others.0) word
    ∙ (ap (λ (b : Spelled). front ++ w ∷ b ∷ others.0) name ∙ (sym (append_assoc front (w ∷ []) (n ∷ others.0))
    ∙ sym (append_assoc (front ++ w ∷ []) (n ∷ []) others.0))) in
    ap (λ (l : List Spelled). with_name x (l, others.1)) all
    ∙ ap (λ (o : Option (List Spelled × List Spelled)). o >>= with_name x) e

abbrev behind_head : List Spelled → List ℕ × List Spelled → Option Class
behind_head front x = class_from [] x.1 >>= λ others. Some (
  (
    x.0,
    front ++ keyword (codes "class") ∷ identifier x.0 ∷ others.0,
  ),
  others.1,
)

module _ (front ts : List Spelled) (x : List ℕ) (rest : List Spelled) (w n : Spelled)
    (head : class_head_at ts ≡ Some (x, rest)) (word : Some (keyword (codes "class")) ≡ Some w)
    (name : Some (identifier x) ≡ Some n) where
  named_of : (given : Option (List Spelled × List Spelled))
      → finished as_they_are ((front ++ w ∷ []) ++ n ∷ []) (class_from [] rest) ≡ given
      → named_class_at front ts ≡ (given >>= with_name x)
  named_of given e =
      ap (λ (o : Option (List ℕ × List Spelled)). o >>= behind_head front) head
      ∙ class_gives front x w n (class_from [] rest) given word name e

  pub named_gives : (own : List ℕ) (all left : List Spelled) → Some x ≡ Some own
      → finished as_they_are ((front ++ w ∷ []) ++ n ∷ []) (class_from [] rest) ≡ Some (all, left)
      → named_class_at front ts ≡ Some ((own, all), left)
  named_gives own all left same e =
      let equal : x ≡ own = cc in
      named_of (Some (all, left)) e ∙ ap (λ (y : List ℕ). with_name y (all, left)) equal

  pub named_fails : (e : ReadError)
      → Fails e (finished as_they_are ((front ++ w ∷ []) ++ n ∷ []) (class_from [] rest))
      → Fails e (named_class_at front ts)
  named_fails e fails = part_fails e _ (named_class_at front ts) (λ none. named_of None none) fails

-- the tokens behind its name
pub behind_its_name : (words all : List Spelled) (x : List ℕ) (w n : Spelled) (here left : Places)
    → ((more : List Spelled) → behind_name (words ++ more) ≡ behind_name more) → keyword (codes "class") ≡ w
    → identifier x ≡ n → Appends ((words ++ w ∷ []) ++ n ∷ []) all here left
    → Leads (no_places (behind_name all)) here left
behind_its_name words all x w n here left unnamed e f a =
    let whole : all ≡ words ++ (w ∷ n ∷ a.others) = a.are ∙ (append_assoc (words ++ w ∷ []) (n ∷ []) a.others
    ∙ append_assoc words (w ∷ []) (n ∷ a.others)) in
    let is : behind_name all ≡ a.others =
    ap behind_name whole ∙ (unnamed (w ∷ n ∷ a.others) ∙ rw (sym e, sym f) refl) in
    subst (λ (l : List Spelled). Leads (no_places l) here left) (sym is) a.led

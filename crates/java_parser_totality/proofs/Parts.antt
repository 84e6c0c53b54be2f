-- Values of the code's types are made of tokens, part by part.
use Rattle.std.proofs.Common.{◌≡◌, ℕ, ◌+◌, ◌<◌, ◌≤◌, true, false, cond, List, [], ◌∷◌, length, refl, sym, ap}
use Rattle.std.proofs.Common.{◌∙◌, subst, arith}
use Rattle.racer_base.specs.declared.ids.Place.{Place}
use Rattle.java_lexer.specs.declared.token.Token.{Token}
use Rattle.java_tree.specs.declared.words.Spelled.{Spelled}
use Rattle.java_tree.specs.KeptPlaces.{Places, kept, is_kept}
use Rattle.java_parser_grammar.specs.Tokens.{plain, plain_all}
use Rattle.java_parser_totality.specs.Totality.{most}

-- What may stand in front of tokens: which values of a type it is, what they put before the places behind it, how many
-- elements they have, and how it is spelled before a rest.
pub record Part (P : Type 0) : Type 1 where
  pub X : Type 0
  pub ok : X → Type 0
  pub put : X → P → P
  pub size : X → ℕ
  pub onto : List Spelled → List Spelled

-- such a value was made of tokens, with this rest behind it
pub record Made {P : Type 0} (Fits : P → Places → Type 0) (p : Part P) (ts : List Token) (rest : List Spelled)
    : Type 0 where
  pub tree : p.X
  pub is : p.ok tree
  pub behind : List Token
  pub spelled : plain_all behind ≡ rest
  pub fits : (ps : P) → Fits ps (kept behind) → Fits (p.put tree ps) (kept ts)
  pub shorter : p.size tree + length behind ≤ length ts

-- one token in front
pub record Front (ts : List Token) (s : Spelled) (rest : List Spelled) : Type 0 where
  pub token : Token
  pub tail : List Token
  pub is : ts ≡ token ∷ tail
  pub seen : plain token ≡ s
  pub others : plain_all tail ≡ rest

pub front : (ts : List Token) (s : Spelled) (rest : List Spelled) → plain_all ts ≡ s ∷ rest → Front ts s rest
front [] s rest e = absurd cc
front (t ∷ ts) s rest e = record { token = t; tail = ts; is = refl; seen = cc; others = cc }

pub no_tokens : (ts : List Token) → plain_all ts ≡ [] → ts ≡ []
no_tokens [] e = refl
no_tokens (t ∷ ts) e = absurd cc

pub kind-seen : (t : Token) (s : Spelled) → plain t ≡ s → is_kept t.kind t.text ≡ is_kept s.kind s.text
kind-seen t s e = ap (λ (x : Spelled). is_kept x.kind x.text) e

module _ {P : Type 0} (Fits : P → Places → Type 0) where
  abbrev pub Makes : Part P → Type 0
  Makes p = (ts : List Token) (rest : List Spelled) → length ts < most → plain_all ts ≡ p.onto rest
      → Made Fits p ts rest

  pub record Maker : Type 1 where
    pub part : Part P
    pub made : Makes part

  abbrev pub maker : (p : Part P) → Makes p → Maker
  maker p m = record { part = p; made = m }

  -- ---- nothing, and one token

  abbrev pub nothing : Part P
  nothing = record { X = Unit {0}; ok = λ _. Unit {0}; put = λ _ ps. ps; size = λ _. 0; onto = λ rest. rest }

  abbrev pub word : Spelled → Part P
  word s = record { X = Unit {0}; ok = λ _. Unit {0}; put = λ _ ps. ps; size = λ _. 1; onto = λ rest. s ∷ rest }

  pub nothing-made : Makes nothing
  nothing-made ts rest few e =
      record { tree = tt; is = tt; behind = ts; spelled = e; fits = λ ps h. h; shorter = omega arith }

  pub unkept-tail : (t : Token) (tail : List Token) → is_kept t.kind t.text ≡ false → kept (t ∷ tail) ≡ kept tail
  unkept-tail t tail e = ap (λ b. cond b (t.place ∷ kept tail) (kept tail)) e

  pub kept-tail : (t : Token) (tail : List Token) → is_kept t.kind t.text ≡ true
      → kept (t ∷ tail) ≡ t.place ∷ kept tail
  kept-tail t tail e = ap (λ b. cond b (t.place ∷ kept tail) (kept tail)) e

  -- a token whose place is not kept
  pub word-made : (s : Spelled) → is_kept s.kind s.text ≡ false → Makes (word s)
  word-made s unkept ts rest few e = of (front ts s rest e) where
    of : Front ts s rest → Made Fits (word s) ts rest
    of f =
        let places : kept ts ≡ kept f.tail =
        ap kept f.is ∙ unkept-tail f.token f.tail (kind-seen f.token s f.seen ∙ unkept) in
        record {
          tree = tt;
          is = tt;
          behind = f.tail;
          spelled = f.others;
          fits = λ ps h. subst (Fits ps) (sym places) h;
          shorter = let long : length ts ≡ length (f.token ∷ f.tail) = ap (λ (l : List Token). length l) f.is in
              omega (arith, long);
        }

  -- a token whose place is kept
  module _ (add : Place → P → P) (adds : (p : Place) (ps : P) (qs : Places) → Fits ps qs
      → Fits (add p ps) (p ∷ qs)) where
    abbrev pub placed : Spelled → Part P
    placed s = record { X = Place; ok = λ _. Unit {0}; put = add; size = λ _. 1; onto = λ rest. s ∷ rest }

    pub placed-made : (s : Spelled) → is_kept s.kind s.text ≡ true → Makes (placed s)
    placed-made s is ts rest few e = of (front ts s rest e) where
      of : Front ts s rest → Made Fits (placed s) ts rest
      of f =
          let places : kept ts ≡ f.token.place ∷ kept f.tail =
          ap kept f.is ∙ kept-tail f.token f.tail (kind-seen f.token s f.seen ∙ is) in
          record {
            tree = f.token.place;
            is = tt;
            behind = f.tail;
            spelled = f.others;
            fits = λ ps h. subst (Fits (add f.token.place ps)) (sym places) (adds f.token.place ps (kept f.tail) h);
            shorter = let long : length ts ≡ length (f.token ∷ f.tail) = ap (λ (l : List Token). length l) f.is in
                omega (arith, long);
          }

  -- ---- one part behind another

  abbrev pub pair : Part P → Part P → Part P
  pair p q =
      record {
        X = p.X × q.X;
        ok = λ x. p.ok x.0 × q.ok x.1;
        put = λ x ps. p.put x.0 (q.put x.1 ps);
        size = λ x. p.size x.0 + q.size x.1;
        onto = λ rest. p.onto (q.onto rest);
      }

  pub pair-made : (p q : Part P) → Makes p → Makes q → Makes (pair p q)
  pair-made p q m n ts rest few e = first (m ts (q.onto rest) few e) where
    second : (a : Made Fits p ts (q.onto rest)) → Made Fits q a.behind rest → Made Fits (pair p q) ts rest
    second a b =
        record {
          tree = (a.tree, b.tree);
          is = (a.is, b.is);
          behind = b.behind;
          spelled = b.spelled;
          fits = λ ps h. a.fits (q.put b.tree ps) (b.fits ps h);
          shorter = omega (arith, a.shorter, b.shorter);
        }

    first : Made Fits p ts (q.onto rest) → Made Fits (pair p q) ts rest
    first a = second a (n a.behind rest (omega (arith, few, a.shorter)) a.spelled)

  abbrev pub and : Maker → Maker → Maker
  and a b = maker (pair a.part b.part) (pair-made a.part b.part a.made b.made)

  -- ---- one part seen as another

  -- values of the one are values of the other
  pub record IsAs (p q : Part P) (f : p.X → q.X) : Type 0 where
    pub ok : (x : p.X) → p.size x < most → p.ok x → q.ok (f x)
    pub put : (x : p.X) → p.size x < most → (ps : P) → q.put (f x) ps ≡ p.put x ps
    pub size : (x : p.X) → q.size (f x) ≤ p.size x
    pub onto : (rest : List Spelled) → q.onto rest ≡ p.onto rest

  pub as-made : (a : Maker) (q : Part P) (f : a.part.X → q.X) → IsAs a.part q f → Makes q
  as-made a q f is ts rest few e = of (a.made ts rest few (e ∙ is.onto rest)) where
    of : Made Fits a.part ts rest → Made Fits q ts rest
    of m =
        let small : a.part.size m.tree < most = omega (arith, few, m.shorter) in
        record {
          tree = f m.tree;
          is = is.ok m.tree small m.is;
          behind = m.behind;
          spelled = m.spelled;
          fits = λ ps h. subst (λ z. Fits z (kept ts)) (sym (is.put m.tree small ps)) (m.fits ps h);
          shorter = omega (arith, m.shorter, is.size m.tree);
        }

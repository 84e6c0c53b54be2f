-- Over any kinds: code before what is still to do fits what is known.
use Rattle.std.proofs.Common.{List, [], ◌∷◌, refl, sym, subst}
use Rattle.core_code.specs.Core.{Core, Method}
use Rattle.core_code.specs.Tree.{Tree}
use Rattle.core_code.specs.Tree as tree
use Rattle.core_semantics.specs.State.{Todo, Loop, Unlock, before}
use Rattle.core_semantics_kinds.specs.Kinding.{CanDo, IsWeaker, Kinding, Leads}

module _ {core : Core} (k : Kinding core) (method : Method) where
  pub same-known : (a : k.Known) → IsWeaker core k method a a
  same-known a = record { so = λ vars stack h. h }

  in-two : (a b c : k.Known) → IsWeaker core k method a b → IsWeaker core k method b c → IsWeaker core k method a c
  in-two a b c first second = record { so = λ vars stack h. second.so vars stack (first.so vars stack h) }

  pub weakened : (todo : List Todo) (a b : k.Known) → IsWeaker core k method a b → CanDo core k method todo b →
      CanDo core k method todo a
  weakened [] a b weaker h = tt
  weakened (step ∷ rest) a b weaker h =
      record {
        from = h.from;
        weaker = in-two a b h.from weaker h.weaker;
        after = h.after;
        does = h.does;
        on = h.on;
      }

  pub before-does : (code : Tree) (todo : List Todo) (a b : k.Known) → Leads core k method code a b →
      CanDo core k method todo b → CanDo core k method (before code todo) a
  before-does (tree.Op site place op) todo a b h on =
      record { from = a; weaker = same-known a; after = b; does = h; on = on }
  before-does tree.Skip todo a b h on = subst (λ (x : k.Known). CanDo core k method todo x) (sym h) on
  before-does (tree.Seq first rest) todo a b h on =
      before-does first (before rest todo) a h.between h.first (before-does rest todo h.between b h.rest on)
  before-does (tree.Choice left right) todo a b h on =
      record { from = a; weaker = same-known a; after = b; does = h; on = on }
  before-does (tree.Loop body) todo a b h on = record { from = a; weaker = same-known a; after = b; does = h; on = on }
  before-does (tree.Sync lock body) todo a b h on =
      record { from = a; weaker = same-known a; after = b; does = h; on = on }

  -- ---- a choice, a loop and a lock, each with what comes behind

  pub left-side : (left right : Tree) (rest : List Todo) (a b : k.Known) →
      Leads core k method (tree.Choice left right) a b → CanDo core k method rest b →
      CanDo core k method (before left rest) a
  left-side left right rest a b h on =
      before-does left rest a h.left h.goes_left (weakened rest h.left b h.from_left on)

  pub right-side : (left right : Tree) (rest : List Todo) (a b : k.Known) →
      Leads core k method (tree.Choice left right) a b → CanDo core k method rest b →
      CanDo core k method (before right rest) a
  right-side left right rest a b h on =
      before-does right rest a h.right h.goes_right (weakened rest h.right b h.from_right on)

  pub once-more : (body : Tree) (rest : List Todo) (a b : k.Known) → Leads core k method (tree.Loop body) a b →
      CanDo core k method rest b → CanDo core k method (before body (Loop body ∷ rest)) a
  once-more body rest a b h on =
      weakened (before body (Loop body ∷ rest)) a h.again h.into
      (before-does body (Loop body ∷ rest) h.again h.after h.body
      (record {
        from = h.again;
        weaker = h.back;
        after = b;
        does =
            record {
              again = h.again;
              into = same-known h.again;
              after = h.after;
              body = h.body;
              back = h.back;
              out = h.out;
            };
        on = on;
      }))

  pub loop-left : (body : Tree) (rest : List Todo) (a b : k.Known) → Leads core k method (tree.Loop body) a b →
      CanDo core k method rest b → CanDo core k method rest a
  loop-left body rest a b h on = weakened rest a b (in-two a h.again b h.into h.out) on

  pub within-lock : (body : Tree) (rest : List Todo) (under b : k.Known) → Leads core k method body under b →
      CanDo core k method rest b → CanDo core k method (before body (Unlock ∷ rest)) under
  within-lock body rest under b h on =
      before-does body (Unlock ∷ rest) under b h
      (record { from = b; weaker = same-known b; after = b; does = refl; on = on })

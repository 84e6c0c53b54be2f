-- The search for an entry goes through the methods in order.
use Rattle.std.proofs.Common.{◌≡◌, ◌<◌, ◌≤◌, ℕ, ◌+◌, Bool, true, false, cond, List, ◌∷◌, Option, None, Some, drop}
use Rattle.std.proofs.Common.{get_or, length, map, sym, ap, ◌∙◌}
use Rattle.std.proofs.lemmas.List.{at_drop_all, at_drop_more}
use Rattle.std.specs.List.{enumerate_from, find}
use Rattle.core_code.specs.declared.parts.MethodCore.{MethodCore}
use Rattle.core_code.specs.Core.{Core, method_of}
use Rattle.witness_text_names.specs.Names.{NumberedMethod, is_named}

module _ (core : Core) (class text : List ℕ) where
  -- the first entry among numbered methods
  abbrev pub entry_from : ℕ → List MethodCore → Option NumberedMethod
  entry_from n ms = find (λ e. is_named core class text e.1) (enumerate_from n (map method_of ms))

  at_next : (ms : List MethodCore) (i : ℕ) (x : MethodCore) → i < length ms → x ≡ get_or ms i x →
      entry_from i (drop i ms) ≡
      cond (is_named core class text (method_of x)) (Some (i, method_of x)) (entry_from (i + 1) (drop (i + 1) ms))
  at_next ms i x within is =
      at_drop_more (entry_from i) ms i x within
      ∙ ap (λ (y : MethodCore). entry_from i (y ∷ drop (i + 1) ms)) (sym is)

  pub entry_passed : (ms : List MethodCore) (i : ℕ) (x : MethodCore) (b : Bool) → i < length ms → x ≡ get_or ms i x →
      b ≡ is_named core class text (method_of x) → b ≡ false →
      entry_from (i + 1) (drop (i + 1) ms) ≡ entry_from i (drop i ms)
  entry_passed ms i x b within is named fails =
      sym (at_next ms i x within is
      ∙ ap (λ (t : Bool). cond t (Some (i, method_of x)) (entry_from (i + 1) (drop (i + 1) ms))) (sym named ∙ fails))

  pub entry_found : (ms : List MethodCore) (i number : ℕ) (x : MethodCore) (b : Bool) → i < length ms →
      x ≡ get_or ms i x → b ≡ is_named core class text (method_of x) → b ≡ true → number ≡ i →
      Some (number, method_of x) ≡ entry_from i (drop i ms)
  entry_found ms i number x b within is named holds counts =
      ap (λ (n : ℕ). Some (n, method_of x)) counts
      ∙ sym (at_next ms i x within is
      ∙ ap (λ (t : Bool). cond t (Some (i, method_of x)) (entry_from (i + 1) (drop (i + 1) ms))) (sym named ∙ holds))

  pub entry_missed : (ms : List MethodCore) (i : ℕ) → length ms ≤ i → None ≡ entry_from i (drop i ms)
  entry_missed ms i past = sym (at_drop_all (entry_from i) ms i past)

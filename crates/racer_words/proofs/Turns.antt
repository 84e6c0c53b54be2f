-- One word of the walk over the words.
use Rattle.std.proofs.Common.{◌≡◌, ℕ, Bool, true, false, List, [], ◌∷◌, ◌++◌, Option, Some, None, refl, sym, ap}
use Rattle.std.proofs.Common.{subst, ◌∙◌}
use Rattle.std.specs.Option.{option_map_or}
use Rattle.clap.specs.Walk.{Row, Text, Held, Walk, Waiting, settled, used, used_by_id, reacted}
use Rattle.clap.specs.Walk.{has_row}
use Rattle.clap.specs.Faults.{use_fault, settle_fault, react_fault}
use Rattle.clap.specs.Kinds.{Kinds, or_else}
use Rattle.racer_words.specs.Uses.{Word, Label, name_of, takes_value, Use, one, has}
use Rattle.racer_words.specs.Command.{fails}
use Rattle.racer_words.proofs.BuiltRules.{built_rule, all, by_id}
use Rattle.racer_words.proofs.UsedRows.{row_of_use, rows_of_uses, has_rows, fits, used_row, given_values}
use Rattle.racer_words.proofs.UsedRows.{first_use, second_use, no_value}

-- where the walk stands, of which no subcommand is met
abbrev pub at : Bool → ℕ → Waiting → Held → Walk
at is_trailing position waiting h = record {
  held = h;
  waiting = waiting;
  position = position;
  is_trailing = is_trailing;
  stopped = None;
}

abbrev pub holds : List Row → Option (Text × List Text) → Held
holds rows pending = record { rows = rows; pending = pending; skip = 0 }

-- the rows are those of the uses, once what is pending is done
pub record Stands (done : List Use) (h : Held) : Type 0 where
  pub rows : (settled all h).rows ≡ rows_of_uses done
  pub whole : settle_fault all false h ≡ []

abbrev pub Fails : Held → Type 0
Fails h = fails (settle_fault all false h) ≡ true

abbrev pub Fault : Kinds → Type 0
Fault k = fails k ≡ true

pub else_first : (k next : Kinds) → Fault k → Fault (or_else k next)
else_first [] next e = absurd (cc e)
else_first (x ∷ k) next e = refl

pub else_second : (k next : Kinds) → k ≡ [] → or_else k next ≡ next
else_second k next e = ap (λ z. or_else z next) e

pub no_fault : (k : Kinds) → or_else k [] ≡ k
no_fault [] = refl
no_fault (x ∷ k) = refl

mapped : (xs ys : List Use) → rows_of_uses (xs ++ ys) ≡ rows_of_uses xs ++ rows_of_uses ys
mapped [] ys = refl
mapped (x ∷ xs) ys = ap (λ more. row_of_use x ∷ more) (mapped xs ys)

settled_by : (l : Label) (values : List Text) (rows : List Row)
    → (settled all (holds rows (Some (name_of l, values)))).rows ≡ used (built_rule l) values rows
settled_by l values rows = ap (λ a. used_by_id a values rows) (by_id l)

fault_by : (l : Label) (values : List Text) (rows : List Row)
    → settle_fault all false (holds rows (Some (name_of l, values))) ≡ use_fault false (built_rule l) values rows
fault_by l values rows = ap (λ r. option_map_or (λ a. use_fault false a values rows) r []) (by_id l)

-- an option that waits for its value
pub waits_fails : (l : Label) (rows : List Row) → takes_value l ≡ true → Fails (holds rows (Some (name_of l, [])))
waits_fails l rows e = ap fails (fault_by l [] rows) ∙ no_value l rows e

module _ (l : Label) (word : Word) (done : List Use) where
  abbrev pub values : List Text
  values = given_values (takes_value l) word

  abbrev pub more : List Use
  more = done ++ one l word ∷ []

  fresh : (rows : List Row) → rows ≡ rows_of_uses done → has l done ≡ false → has_row (name_of l) rows ≡ false
  fresh rows e h = ap (has_row (name_of l)) e ∙ has_rows l done ∙ h

  again : (rows : List Row) → rows ≡ rows_of_uses done → has l done ≡ true → has_row (name_of l) rows ≡ true
  again rows e h = ap (has_row (name_of l)) e ∙ has_rows l done ∙ h

  used_more : (rows : List Row) → rows ≡ rows_of_uses done → has l done ≡ false
      → used (built_rule l) values rows ≡ rows_of_uses more
  used_more rows e h = used_row l values word rows (fits l word) (fresh rows e h)
      ∙ ap (λ z. z ++ row_of_use (one l word) ∷ []) e ∙ sym (mapped done (one l word ∷ []))

  -- what is pending is one more use
  pub pends : (rows : List Row) → rows ≡ rows_of_uses done → has l done ≡ false
      → Stands more (holds rows (Some (name_of l, values)))
  pends rows e h = record {
    rows = settled_by l values rows ∙ used_more rows e h;
    whole = fault_by l values rows ∙ first_use l word rows (fresh rows e h);
  }

  pub pends_again : (rows : List Row) → rows ≡ rows_of_uses done → has l done ≡ true
      → Fails (holds rows (Some (name_of l, values)))
  pends_again rows e h = ap fails (fault_by l values rows) ∙ second_use l word rows (again rows e h)

  -- what is done at once is one more use
  pub reacts : (h : Held) → Stands done h → has l done ≡ false → react_fault all false (built_rule l) values h ≡ []
  reacts h s e = else_second (settle_fault all false h) _ s.whole ∙ first_use l word _ (fresh _ s.rows e)

  pub reacts_again : (h : Held) → Stands done h → has l done ≡ true
      → Fault (react_fault all false (built_rule l) values h)
  reacts_again h s e = ap fails (else_second (settle_fault all false h) _ s.whole)
      ∙ second_use l word _ (again _ s.rows e)

  pub reacted_stands : (h : Held) → Stands done h → has l done ≡ false
      → Stands more (reacted all (built_rule l) values h)
  reacted_stands h s e = record { rows = used_more (settled all h).rows s.rows e; whole = refl }

-- the same for what takes a value, and for a flag
module _ (l : Label) (word : Word) (done : List Use) where
  pub value_stands : (rows : List Row) → takes_value l ≡ true → rows ≡ rows_of_uses done → has l done ≡ false
      → Stands (done ++ one l word ∷ []) (holds rows (Some (name_of l, word ∷ [])))
  value_stands rows t e h = subst (λ b. Stands (done ++ one l word ∷ [])
      (holds rows (Some (name_of l, given_values b word)))) t (pends l word done rows e h)

  pub value_fails : (rows : List Row) → takes_value l ≡ true → rows ≡ rows_of_uses done → has l done ≡ true
      → Fails (holds rows (Some (name_of l, word ∷ [])))
  value_fails rows t e h = subst (λ b. Fails (holds rows (Some (name_of l, given_values b word)))) t
      (pends_again l word done rows e h)

  module _ (h : Held) (s : Stands done h) where
    pub value_reacts : takes_value l ≡ true → has l done ≡ false
        → react_fault all false (built_rule l) (word ∷ []) h ≡ []
    value_reacts t e = subst (λ b. react_fault all false (built_rule l) (given_values b word) h ≡ []) t
        (reacts l word done h s e)

    pub value_reacts_again : takes_value l ≡ true → has l done ≡ true
        → Fault (react_fault all false (built_rule l) (word ∷ []) h)
    value_reacts_again t e = subst (λ b. Fault (react_fault all false (built_rule l) (given_values b word) h)) t
        (reacts_again l word done h s e)

    pub value_reacted : takes_value l ≡ true → has l done ≡ false
        → Stands (done ++ one l word ∷ []) (reacted all (built_rule l) (word ∷ []) h)
    value_reacted t e = subst (λ b. Stands (done ++ one l word ∷ [])
        (reacted all (built_rule l) (given_values b word) h)) t (reacted_stands l word done h s e)

    pub flag_reacts : takes_value l ≡ false → has l done ≡ false → react_fault all false (built_rule l) [] h ≡ []
    flag_reacts t e = subst (λ b. react_fault all false (built_rule l) (given_values b word) h ≡ []) t
        (reacts l word done h s e)

    pub flag_reacts_again : takes_value l ≡ false → has l done ≡ true
        → Fault (react_fault all false (built_rule l) [] h)
    flag_reacts_again t e = subst (λ b. Fault (react_fault all false (built_rule l) (given_values b word) h)) t
        (reacts_again l word done h s e)

    pub flag_reacted : takes_value l ≡ false → has l done ≡ false
        → Stands (done ++ one l word ∷ []) (reacted all (built_rule l) [] h)
    flag_reacted t e = subst (λ b. Stands (done ++ one l word ∷ [])
        (reacted all (built_rule l) (given_values b word) h)) t (reacted_stands l word done h s e)

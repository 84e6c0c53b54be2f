-- What `clap` answers by the command.
use Rattle.std.proofs.Common.{◌≡◌, ◌∙◌, true, List, [], refl, subst, inl, inr}
use Rattle.std.specs.Prelude.{◌⊎◌}
use Rattle.clap.specs.Kinds.{Kinds, IsAmong}
use Rattle.clap.specs.Matches.{found_of}
use Rattle.clap.specs.Walk.{rows_of}
use Rattle.clap.specs.Simple.{App, HasMatchesOf, matches_of}
use Rattle.clap.specs.Faults.{fault_of, is_simple_and_free}
use Rattle.clap.specs.declared.error.kind.ErrorKind.{ErrorKind}
use Rattle.clap.specs.declared.error.kind.ErrorKind.TheVariants.{OutOfMemory}
use Rattle.clap.specs.declared.parser.matches.ArgMatches.{ArgMatches}
use Rattle.racer_words.specs.Uses.{Word}
use Rattle.racer_words.specs.Command.{command, fails}
use Rattle.racer_words.proofs.GivenLines.{among_fails}

pub rows_by : (a : App) (words : List Word) (m : ArgMatches) → a ≡ command → HasMatchesOf a words m →
    rows_of (found_of m) ≡ matches_of command words
rows_by a words m is has = (subst (λ b. HasMatchesOf b words m) is has refl).0

pub no_faults : (a : App) (words : List Word) → a ≡ command →
    (is_simple_and_free a ≡ true → fault_of a words ≡ []) → fault_of command words ≡ []
no_faults a words is h = subst (λ b. is_simple_and_free b ≡ true → fault_of b words ≡ []) is h refl

by_kind : (k : ErrorKind) (ks : Kinds) → (k ≡ OutOfMemory → ⊥) → (k ≡ OutOfMemory) ⊎ IsAmong k ks → fails ks ≡ true
by_kind k ks other (inl e) = absurd (other e)
by_kind k ks other (inr h) = among_fails k ks h

pub some_fault : (a : App) (words : List Word) (k l : ErrorKind) → a ≡ command →
    (is_simple_and_free a ≡ true → (l ≡ OutOfMemory) ⊎ IsAmong l (fault_of a words)) → k ≡ l →
    (k ≡ OutOfMemory → ⊥) → fails (fault_of command words) ≡ true
some_fault a words k l is h same other =
    by_kind l (fault_of command words) (λ e. other (same ∙ e))
    (subst (λ b. is_simple_and_free b ≡ true → (l ≡ OutOfMemory) ⊎ IsAmong l (fault_of b words)) is h refl)

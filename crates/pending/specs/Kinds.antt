-- The kinds of triggers by their numbers.
use Rattle.std.specs.Prelude.{ℕ, [], ◌∷◌, Option}
use Rattle.numbers.specs.Names.{first_with}
use Rattle.pending.specs.declared.kind.Kind.{Kind}
use Rattle.pending.specs.declared.kind.Kind.TheVariants.{Absolute, Relative, OnCommand}
use Rattle.pending.specs.Triggers.{absolute_kind, relative_kind, on_command_kind}

abbrev pub kind_number : Kind → ℕ
kind_number Absolute = absolute_kind
kind_number Relative = relative_kind
kind_number OnCommand = on_command_kind

abbrev pub kind_numbered : ℕ → Option Kind
kind_numbered n = first_with kind_number n (Absolute ∷ (Relative ∷ (OnCommand ∷ [])))

-- The lines that watch prints of a property file.
use Rattle.std.specs.Prelude.{◌≡◌, ℕ, ◌-◌, List, ◌++◌, length, Some, codes, decimal}
use Rattle.std.proofs.Math.Option.{Option, none, some}
use Rattle.std.specs.List.{slice_get}
use Rattle.answer.specs.Questions.{first_no}
use Rattle.psl.specs.declared.entry.Formula.{Formula}
use Rattle.psl.specs.declared.entry.Formula.TheVariants.{Strong, Weak, StrongSequence, WeakSequence, Not, And, Next, Until, Abort, Implies, At}
use Rattle.file.specs.declared.refusal.Refusal.{Refusal}
use Rattle.property.specs.declared.place.Property.{Property}
use Rattle.file.specs.Refusals.{refusal_text}
use Rattle.file.specs.File.{questions}
use Rattle.property.specs.Place.{conditions_of, sequences_of, formulas_of, HoldsFile}

-- the operator of a formula, over b, c for conditions, r for a sequence, f, g for formulas
abbrev pub operator : Formula → List ℕ
operator (Strong a) = codes "b!"
operator (Weak a) = codes "b"
operator (StrongSequence a) = codes "r!"
operator (WeakSequence a) = codes "r"
operator (Not a) = codes "not f"
operator (And a b) = codes "f and g"
operator (Next a) = codes "X! f"
operator (Until a b) = codes "f U g"
operator (Abort a b) = codes "f abort b"
operator (Implies a b) = codes "r |-> f"
operator (At a b) = codes "f @ c"

-- a refused file: "file" and the refusal
abbrev pub refused_line : Refusal → List ℕ
refused_line r = codes "file " ++ refusal_text r

-- three counts and an operator
abbrev pub counts_line : ℕ → ℕ → ℕ → List ℕ → List ℕ
counts_line n m k operator =
    codes "conditions " ++ (decimal n ++ (codes ", sequences " ++ (decimal m ++ (codes ", formulas " ++ (decimal k ++ (codes ", property " ++ operator))))))

-- an accepted file: how many entries there are, and the operator of the property, which is the last formula
abbrev pub AcceptedLine : Property → List ℕ → Type 0
AcceptedLine p line =
    (f : Formula) × (slice_get (formulas_of p) (length (formulas_of p) - 1) ≡ Some f)
    × (line ≡ counts_line (length (conditions_of p)) (length (sequences_of p)) (length (formulas_of p)) (operator f))

-- the line for a file: of its first no, or of the property that it spells
abbrev pub LineAfter : Option Refusal → List ℕ → List ℕ → Type 0
LineAfter (some r) bytes line = line ≡ refused_line r
LineAfter none bytes line = (p : Property) × HoldsFile bytes p × AcceptedLine p line

abbrev pub LineOf : List ℕ → List ℕ → Type 0
LineOf bytes line = LineAfter (first_no (questions bytes)) bytes line

-- What the program takes from a reader and writes to a writer, where these tell their bytes.
--
-- AppendsFront old new t == the bytes that a writer holds grew by a front of the text t: maybe nothing, maybe all
-- Writes r old new t == they grew by t where r is Ok, and by a front of it where it is an error
-- Says known r old new f == the same of the text f w, where w is what a reader still had to give
--
-- A reader or a writer that tells nothing, as standard input and standard output, is None here.
use Rattle.std.specs.Prelude.{ℕ, List, take, Option, Result, IfSome, MatchResult}
use Rattle.std.specs.Io.KnownBytes.{Appends}

abbrev pub AppendsFront : Option (List ℕ) → Option (List ℕ) → List ℕ → Type 0
AppendsFront old new t = (k : ℕ) × Appends old new (take k t)

abbrev pub Writes : {T E : Type 0} → Result T E → Option (List ℕ) → Option (List ℕ) → List ℕ → Type 0
Writes r old new t = MatchResult r (λ _. Appends old new t) (λ _. AppendsFront old new t)

abbrev pub Says : {T E : Type 0} → Option (List ℕ) → Result T E → Option (List ℕ) → Option (List ℕ) → (List ℕ → List ℕ) → Type 0
Says known r old new f = IfSome known (λ w. Writes r old new (f w))

-- Size forms and the cover test. Document 01, "Size forms" and "Cover".
use Rattle.std.specs.Prelude.{List, [], ◌∷◌, ◌++◌, map, Bool, true, ◌&&◌, ℕ, zero, suc, ◌+◌, ◌*◌, length, replicate, set, leb}
use Rattle.std.specs.Prelude.{Option, None, Some}
use Rattle.rules.specs.declared.records.Alternative.{Alternative}
use Rattle.rules.specs.Base.{is_zero, all, any}
use Rattle.rules.specs.Program.{Constructor, Function, Program, constructor, function}
use Rattle.rules.specs.Tree.{Trees, node, nil, cons}
use Rattle.rules.specs.Expressions.{Symbol, variable, known, built, called, Expression}

-- "A form is a list of alternatives, each 16 coefficients and a constant"
abbrev pub Form : Type 0
Form = List Alternative

unfoldable pub constant_only : ℕ → Alternative
constant_only k = record { coefficients = replicate 16 0; constant = k }

unfoldable pub variable_only : ℕ → Alternative
variable_only v = record { coefficients = set (replicate 16 0) v 1; constant = 0 }

-- a + m × b, coefficient by coefficient; one that is not there is 0
unfoldable pub plus_times : List ℕ → ℕ → List ℕ → List ℕ
plus_times [] m [] = []
plus_times [] m (b ∷ ys) = (m * b) ∷ plus_times [] m ys
plus_times (a ∷ xs) m [] = a ∷ xs
plus_times (a ∷ xs) m (b ∷ ys) = (a + m * b) ∷ plus_times xs m ys

-- alternative a with m times alternative b added
unfoldable pub added : ℕ → Alternative → Alternative → Alternative
added m b a = record { coefficients = plus_times a.coefficients m b.coefficients; constant = a.constant + m * b.constant }

unfoldable pub flat_map : {A B : Type 0} → (A → List B) → List A → List B
flat_map f [] = []
flat_map f (x ∷ xs) = f x ++ flat_map f xs

-- "Substituting into an alternative takes every choice of one alternative from each argument whose coefficient is not 0; nothing is dropped
-- as a duplicate": an alternative of these coefficients and this constant, and the arguments' forms
unfoldable pub substituted : List ℕ → ℕ → List Form → Form
substituted [] k forms = constant_only k ∷ []
substituted (m ∷ ms) k [] = constant_only k ∷ []
substituted (zero ∷ ms) k (form ∷ forms) = substituted ms k forms
substituted (suc m ∷ ms) k (form ∷ forms) =
    let rest = substituted ms k forms in
    flat_map (λ choice. map (added (suc m) choice) rest) form

-- into each alternative of a size bound
unfoldable pub into_bound : List Alternative → List Form → Form
into_bound bound forms = flat_map (λ a. substituted a.coefficients a.constant forms) bound

-- "A build is the single alternative of coefficients 1 and its weight"
unfoldable pub built_form : Option Constructor → List Form → Form
built_form None forms = []
built_form (Some k) forms = substituted (replicate (length k.arguments) 1) k.weight forms

unfoldable pub called_form : Option Function → List Form → Form
called_form None forms = []
called_form (Some g) forms = into_bound g.bound forms

module _ (s : Program) where
  -- the size form of an expression
  unfoldable mutual
    pub form_of : Expression → Form
    form_of (node (variable k) ts) = variable_only k ∷ []
    form_of (node (known c) ts) = built_form (constructor s c) (forms_of ts)
    form_of (node (built c) ts) = built_form (constructor s c) (forms_of ts)
    form_of (node (called g) ts) = called_form (function s g) (forms_of ts)

    pub forms_of : Trees Symbol → List Form
    forms_of nil = []
    forms_of (cons t ts) = form_of t ∷ forms_of ts

---- "every alternative of every stack entry must be matched by one alternative of the function's own bound .. no coefficient and no
---- constant exceeds it"

unfoldable pub at_most : List ℕ → List ℕ → Bool
at_most [] ys = true
at_most (x ∷ xs) [] = is_zero x && at_most xs []
at_most (x ∷ xs) (y ∷ ys) = leb x y && at_most xs ys

unfoldable pub matches : Alternative → Alternative → Bool
matches a b = leb a.constant b.constant && at_most a.coefficients b.coefficients

unfoldable pub covers : Form → Form → Bool
covers bound form = all (λ a. any (matches a) bound) form

-- The code's size forms as lists of alternatives.
use Rattle.std.specs.Prelude.{◌≡◌, Option, Some, None, List, [], ◌∷◌, map, ℕ, zero, suc, ◌≤◌, ◌<◌, take, length, get_or}
use Rattle.rules.specs.declared.records.Alternative.{Alternative}
use Rattle.rules.specs.declared.records.AlternativeRecord.{AlternativeRecord}
use Rattle.rules.specs.Forms as forms
use Rattle.rules.specs.Forms.{added, flat_map}
use Rattle.sizing.specs.declared.forms.Form.{Form}
use Rattle.sizing.specs.Put.{AllWide, AllBounded}

abbrev pub form_in : Form → forms.Form
form_in f = take f.count f.alternatives

pub record FormRight (f : Form) : Type 0 where
  pub few : f.count ≤ 16
  pub long : length f.alternatives ≡ 16
  pub wide : AllWide (form_in f)

-- a covered form: what stands on the stack
pub record Entry (f : Form) : Type 0 where
  pub right : FormRight f
  pub some : 0 < f.count
  pub below : AllBounded 15 131072 (form_in f)

-- x has some alternatives, and is the form
pub record Formed (x : Form) (form : forms.Form) : Type 0 where
  pub right : FormRight x
  pub some : 0 < x.count
  pub same : form_in x ≡ form

-- the form, where that has at most 16 alternatives
abbrev pub FormMade : Option Form → forms.Form → Type 0
FormMade None form = 16 < length form
FormMade (Some x) form = Formed x form

-- every choice of an alternative of form, m times, with one of rest
unfoldable pub choices : ℕ → forms.Form → forms.Form → forms.Form
choices zero form rest = rest
choices (suc m) form rest = flat_map (λ choice. map (added (suc m) choice) rest) form

abbrev pub no_form : Form
no_form = record { alternatives = []; count = 0 }

-- the forms of arguments
abbrev pub forms_in : List Form → List forms.Form
forms_in arguments = map form_in arguments

pub record RowRight (row : AlternativeRecord) : Type 0 where
  pub four : length row.coefficients ≡ 4
  pub small : (i : ℕ) → get_or row.coefficients i 0 ≤ 15
  pub constant : row.constant ≤ 65535

pub record ArgumentForms (arguments : List Form) : Type 0 where
  pub few : length arguments ≤ 4
  pub entries : (i : ℕ) → i < length arguments → Entry (get_or arguments i no_form)

-- one alternative
pub record Single (x : Form) (a : Alternative) : Type 0 where
  pub right : FormRight x
  pub one : x.count ≡ 1
  pub same : form_in x ≡ a ∷ []

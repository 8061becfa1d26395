-- what the getters of `clap` read, by its rows
use Rattle.std.proofs.Common.{◌∙◌, ◌≡◌, Bool, true, false, cond, List, [], ◌∷◌, map, option_map, Option, Some, None, ap, refl, sym}
use Rattle.std.specs.{Prelude.{find, slice_get, option_and_then}, Str.bytes_eq, Borrow.Bor}
use Rattle.clap.specs.{Facts.Entry, Matches.{first_value, matched_of, one_text, raw_values}, Values.read_as, declared.parser.matches.Found.Found}
use Rattle.clap.specs.Walk.{Row, Text, all_of, first_of, one_of, row_of, row_text, rows_of}

row_found : (id : Text) (es : List Entry) → find (λ r. bytes_eq r.id id) (map row_of es) ≡ option_map row_of (find (λ e. bytes_eq e.0.now id) es)
row_found id [] = refl
row_found id (e ∷ es) = step (bytes_eq e.0.now id) (row_found id es)
  where
    step : (b : Bool) → find (λ r. bytes_eq r.id id) (map row_of es) ≡ option_map row_of (find (λ e. bytes_eq e.0.now id) es) → cond b (Some (row_of e)) (find (λ r. bytes_eq r.id id) (map row_of es)) ≡ option_map row_of (cond b (Some e) (find (λ e. bytes_eq e.0.now id) es))
    step true rest = refl
    step false rest = rest

first_of_items : (xs : List (Bor Text)) → option_map (λ s. s.now) (slice_get xs 0) ≡ slice_get (map (λ s. s.now) xs) 0
first_of_items [] = refl
first_of_items (x ∷ xs) = refl

pub first_text : (f : Found) (id : Text) → first_value f id ≡ first_of id (rows_of f)
first_text f id = step (find (λ e. bytes_eq e.0.now id) f.entries.items) ∙ ap (option_and_then (λ r. slice_get r.values 0)) (sym (row_found id f.entries.items))
  where
    step : (o : Option Entry) → option_and_then (λ a. option_map (λ s. s.now) (slice_get a.vals.items 0)) (option_map (λ e. e.1) o) ≡ option_and_then (λ r. slice_get r.values 0) (option_map row_of o)
    step None = refl
    step (Some e) = first_of_items e.1.vals.items

pub all_texts : (f : Found) (id : Text) → option_map raw_values (matched_of f id) ≡ all_of id (rows_of f)
all_texts f id = step (find (λ e. bytes_eq e.0.now id) f.entries.items) ∙ ap (option_map (λ (r : Row). r.values)) (sym (row_found id f.entries.items))
  where
    step : (o : Option Entry) → option_map raw_values (option_map (λ e. e.1) o) ≡ option_map (λ (r : Row). r.values) (option_map row_of o)
    step None = refl
    step (Some e) = refl

pub read_text : (f : Found) (id : Text) → one_text f id ≡ one_of id (rows_of f)
read_text f id = step (find (λ e. bytes_eq e.0.now id) f.entries.items) ∙ ap (option_and_then row_text) (sym (row_found id f.entries.items))
  where
    read : (e : Entry) (xs : List (Bor Text)) → option_map (λ s. read_as e.1.reading s.now) (slice_get xs 0) ≡ option_map (read_as e.1.reading) (slice_get (map (λ s. s.now) xs) 0)
    read e [] = refl
    read e (x ∷ xs) = refl

    step : (o : Option Entry) → option_and_then (λ a. option_map (λ s. read_as a.reading s.now) (slice_get a.vals.items 0)) (option_map (λ e. e.1) o) ≡ option_and_then row_text (option_map row_of o)
    step None = refl
    step (Some e) = read e e.1.vals.items

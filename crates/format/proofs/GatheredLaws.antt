-- The laws of `gathered`.
use mathlib.Core.List.{List, [], ◌∷◌, ◌++◌, map, map-append, append_assoc, append-nil}
use mathlib.Core.Path.{◌≡◌, refl, sym, ◌∙◌, ap}
use Rattle.format.specs.Lookup.{gathered}
use Rattle.format.specs.Rules.{Every}

pub gathered-append : {A B : Type 0} (f : A → List B) (xs ys : List A) → gathered f (xs ++ ys) ≡ gathered f xs ++ gathered f ys
unfolding gathered
gathered-append f [] ys = refl
gathered-append f (x ∷ xs) ys = rw (gathered-append f xs ys) (sym (append_assoc (f x) (gathered f xs) (gathered f ys)))

pub gathered_one : {A B : Type 0} (f : A → List B) (x : A) → gathered f (x ∷ []) ≡ f x
unfolding gathered
gathered_one f x = append-nil (f x)

-- One for each element.
pub gathered_each : {A B : Type 0} (f : A → B) (xs : List A) → gathered (λ x. f x ∷ []) xs ≡ map f xs
unfolding gathered
gathered_each f [] = refl
gathered_each f (x ∷ xs) = ap (λ r. f x ∷ r) (gathered_each f xs)

pub gathered-map : {A B C : Type 0} (f : B → List C) (g : A → B) (xs : List A) → gathered f (map g xs) ≡ gathered (λ x. f (g x)) xs
unfolding gathered
gathered-map f g [] = refl
gathered-map f g (x ∷ xs) = ap (λ ys. f (g x) ++ ys) (gathered-map f g xs)

pub map-gathered : {A B C : Type 0} (g : B → C) (f : A → List B) (xs : List A) → map g (gathered f xs) ≡ gathered (λ x. map g (f x)) xs
unfolding gathered
map-gathered g f [] = refl
map-gathered g f (x ∷ xs) = map-append g (f x) (gathered f xs) ∙ ap (λ ys. map g (f x) ++ ys) (map-gathered g f xs)

pub gathered-gathered : {A B C : Type 0} (f : B → List C) (g : A → List B) (xs : List A) → gathered f (gathered g xs) ≡ gathered (λ x. gathered f (g x)) xs
unfolding gathered
gathered-gathered f g [] = refl
gathered-gathered f g (x ∷ xs) =
    gathered-append f (g x) (gathered g xs) ∙ ap (λ ys. gathered f (g x) ++ ys) (gathered-gathered f g xs)

pub gathered_same : {A B : Type 0} (f g : A → List B) (xs : List A) → Every (λ x. f x ≡ g x) xs → gathered f xs ≡ gathered g xs
unfolding gathered Every
gathered_same f g [] h = refl
gathered_same f g (x ∷ xs) h = rw (h.0, gathered_same f g xs h.1)

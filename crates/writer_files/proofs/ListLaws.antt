-- Lists whose chunks go together.
use Rattle.std.proofs.Common.{◌+◌, List, [], ◌∷◌, ◌++◌, length, All, subst, arith, length-append}
use Rattle.std.specs.List.{AllZip}
use Rattle.std.proofs.lemmas.List.{get_or_append_left, get_or-append-add}
use Rattle.std.proofs.lemmas.List.Elements.{All-nil, All-cons, All-head, All-tail}
use Rattle.value_chunk.specs.Chunks.{Chunk}

pub zip_weaker : (R Q : Chunk → Chunk → Type 0) → ((c d : Chunk) → R c d → Q c d) → (xs ys : List Chunk) → AllZip R xs ys → AllZip Q xs ys
zip_weaker R Q weaker [] [] zip = tt
zip_weaker R Q weaker [] (y ∷ ys) zip = absurd zip
zip_weaker R Q weaker (x ∷ xs) [] zip = absurd zip
zip_weaker R Q weaker (x ∷ xs) (y ∷ ys) zip = (weaker x y zip.0, zip_weaker R Q weaker xs ys zip.1)

pub zip_append : (R : Chunk → Chunk → Type 0) → (ps qs xs ys : List Chunk) → AllZip R ps qs → AllZip R xs ys → AllZip R (ps ++ xs) (qs ++ ys)
zip_append R [] [] xs ys front back = back
zip_append R [] (q ∷ qs) xs ys front back = absurd front
zip_append R (p ∷ ps) [] xs ys front back = absurd front
zip_append R (p ∷ ps) (q ∷ qs) xs ys front back = (front.0, zip_append R ps qs xs ys front.1 back)

pub zip_same : (R : Chunk → Chunk → Type 0) → ((c : Chunk) → R c c) → (xs : List Chunk) → AllZip R xs xs
zip_same R same [] = tt
zip_same R same (x ∷ xs) = (same x, zip_same R same xs)

pub zip_all : (R : Chunk → Chunk → Type 0) (P Q : Chunk → Type 0) → ((c d : Chunk) → R c d → P c → Q d) → (xs ys : List Chunk) → AllZip R xs ys → All P xs → All Q ys
zip_all R P Q step [] [] zip all = All-nil Q
zip_all R P Q step [] (y ∷ ys) zip all = absurd zip
zip_all R P Q step (x ∷ xs) [] zip all = absurd zip
zip_all R P Q step (x ∷ xs) (y ∷ ys) zip all =
    All-cons Q y ys (step x y zip.0 (All-head P x xs all)) (zip_all R P Q step xs ys zip.1 (All-tail P x xs all))

pub zip_with_all : (R Q : Chunk → Chunk → Type 0) (P : Chunk → Type 0) → ((c d : Chunk) → R c d → P c → Q c d) → (xs ys : List Chunk) → AllZip R xs ys → All P xs → AllZip Q xs ys
zip_with_all R Q P step [] [] zip all = tt
zip_with_all R Q P step [] (y ∷ ys) zip all = absurd zip
zip_with_all R Q P step (x ∷ xs) [] zip all = absurd zip
zip_with_all R Q P step (x ∷ xs) (y ∷ ys) zip all =
    (step x y zip.0 (All-head P x xs all), zip_with_all R Q P step xs ys zip.1 (All-tail P x xs all))

pub zip_then : (R Q S : Chunk → Chunk → Type 0) → ((c d e : Chunk) → R c d → Q d e → S c e) → (xs ys zs : List Chunk) → AllZip R xs ys → AllZip Q ys zs → AllZip S xs zs
zip_then R Q S step [] [] [] first second = tt
zip_then R Q S step [] [] (z ∷ zs) first second = absurd second
zip_then R Q S step [] (y ∷ ys) zs first second = absurd first
zip_then R Q S step (x ∷ xs) [] zs first second = absurd first
zip_then R Q S step (x ∷ xs) (y ∷ ys) [] first second = absurd second
zip_then R Q S step (x ∷ xs) (y ∷ ys) (z ∷ zs) first second = (step x y z first.0 second.0, zip_then R Q S step xs ys zs first.1 second.1)

pub all_front : (P : Chunk → Type 0) (xs ys : List Chunk) → All P (xs ++ ys) → All P xs
all_front P xs ys all k d inside =
    subst P (get_or_append_left xs ys d k inside) (all k d (omega (arith, length-append xs ys)))

pub all_back : (P : Chunk → Type 0) (xs ys : List Chunk) → All P (xs ++ ys) → All P ys
all_back P xs ys all k d inside =
    subst P (get_or-append-add xs ys k d) (all (length xs + k) d (omega (arith, length-append xs ys)))

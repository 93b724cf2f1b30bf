-- One value, one content, one table or one fault.
use Rattle.dg_file.proofs.Common.{◌≡◌, ℕ, List, length, sym, ap, ◌∙◌, StartData, Content, place_of, ContentDescribes, IsTableFile, held_once, one_graph, FileMeaningIsUnique}
use Rattle.dg_file.proofs.OneContent.{found-once, same-value, same-content}
use Rattle.dg_file.proofs.OneFile.{file-none, file-one}
use Rattle.dg_file.proofs.laws.file_meaning_is_unique.Goals as goal

one-described : (content : Content) (o p : StartData) (names others : List (List ℕ)) → ContentDescribes content o names
    → ContentDescribes content p others → (o ≡ p) × (names ≡ others)
one-described content o p names others a b =
    let same : names ≡ others = a.given ∙ sym b.given in
    let graph : o.graph ≡ p.graph = one_graph o.graph p.graph a.graph.graph b.graph.graph
    (a.graph.size ∙ ap length same ∙ sym b.graph.size) (λ u v. a.graph.edges u v ∙ sym (b.graph.edges u v)) in
    let divisor : o.divisor ≡ p.divisor =
    held_once 1000000 content.amounts o.divisor p.divisor a.amounts b.amounts a.within b.within in
    let vertex : o.q ≡ p.q = found-once (place_of others content.q) o.q p.q (rw same at a.vertex) b.vertex in
    (λ i. record { graph = graph i; divisor = divisor i; q = vertex i }, same)

one-table : (bytes : List ℕ) (o p : StartData) (names others : List (List ℕ)) → IsTableFile bytes o names
    → IsTableFile bytes p others → (o ≡ p) × (names ≡ others)
one-table bytes o p names others a b =
    let value : a.value ≡ b.value = same-value bytes a.value b.value a.reads b.reads in
    let content : a.content ≡ b.content = same-content b.value a.content b.content (rw value at a.says) b.says in
    one-described b.content o p names others (rw content at a.describes) b.describes

one : FileMeaningIsUnique
one = record { table = one-table; refused = file-none; fault = file-one }

pub returns-clause-one : goal.returns-clause-one
returns-clause-one c = one

-- What a query asks.
use Rattle.adr_model.specs.Queries.{at_query, list_query, roll_query, types_query, Query as Asked}
use Rattle.adr_fan.specs.declared.queries.Query.{Query}
use Rattle.adr_fan.specs.declared.queries.Query.TheVariants.{At, List as Listed, Roll, Types}

abbrev pub query_in : Query → Asked
query_in (At id payload_type moment) = at_query id payload_type moment
query_in (Listed id payload_type from to) = list_query id payload_type from to
query_in (Roll payload_type moment) = roll_query payload_type moment
query_in (Types id) = types_query id

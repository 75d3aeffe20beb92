pub mod HtmlPages
